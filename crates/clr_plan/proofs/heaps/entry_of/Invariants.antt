use Rattle.std.proofs.Common.{ℕ, ◌<◌, ◌≤◌, ◌⊎◌}
use Rattle.clr_types.specs.Segments.{reserved_end}
use Rattle.clr_heap.specs.View.{segment_at}
use Rattle.clr_plan.proofs.heaps.entry_of.Given as goal

abbrev pub invariant-loop-k : goal.invariant-loop-k
invariant-loop-k l = (t : ℕ) → t < l.k → (l.place < (segment_at l.heap t).base)
    ⊎ (reserved_end (segment_at l.heap t) ≤ l.place)
