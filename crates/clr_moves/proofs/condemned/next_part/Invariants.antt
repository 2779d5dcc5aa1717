use Rattle.std.proofs.Common.{◌≡◌, ℕ, ◌<◌, ◌≤◌, false, length, ◌-◌}
use Rattle.clr_heap.specs.View.{segment_at}
use Rattle.clr_moves.specs.Moves.{takes}
use Rattle.clr_moves.proofs.condemned.next_part.Given as goal

abbrev pub invariant-loop-found : goal.invariant-loop-found
invariant-loop-found l = record {
  above : l.fn.start ≤ l.found;
  within : l.found ≤ length l.heap.segments;
  none : (t : ℕ) → l.fn.start ≤ t → t < l.found → takes l.g (segment_at l.heap t) ≡ false;
}

abbrev pub decreases-loop-found : goal.decreases-loop-found
decreases-loop-found l = length l.heap.segments - l.found
