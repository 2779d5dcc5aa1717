use Rattle.std.proofs.Common.{◌≡◌, ℕ, ◌<◌, ◌≤◌, None}
use Rattle.clr_types.specs.Segments.{rest_of}
use Rattle.clr_heap.specs.View.{frame}
use Rattle.clr_ctx.proofs.young_items.has_no_contexts.Given as goal

abbrev pub invariant-loop-thread : goal.invariant-loop-thread
invariant-loop-thread l = (k : ℕ) → 1 ≤ k → k < l.thread → rest_of (frame l.heap) k ≡ None
