-- The heap with an object at the front of a thread's context.
use Rattle.std.specs.Prelude.{ℕ, ◌+◌, ◌-◌, List, set}
use Rattle.clr_types.specs.Types.{TypeRow, form_at, size_of}
use Rattle.clr_types.specs.Segments.{rest_of}
use Rattle.clr_heap.specs.View.{frame, HeapView, placed, rest_between}
use Rattle.clr_model.specs.Allocation.{context_front, rest_end}

-- The head of an object of type t and length n stands at the front of the thread's context, of which the rest is left.
-- Nothing else changes.
abbrev pub with_newborn : List TypeRow → HeapView → ℕ → ℕ → ℕ → HeapView
with_newborn rows h thread t n =
    record (placed rows h (context_front (frame h) thread) t n) {
      rests = set h.rests (thread - 1)
          (rest_between (context_front (frame h) thread + size_of (form_at rows t) n)
          (rest_end (rest_of (frame h) thread)));
    }
