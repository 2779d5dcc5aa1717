use Rattle.std.proofs.Common.{◌≡◌, ◌⊎◌, ℕ, ◌<◌, ◌≤◌, length, ◌-◌}
use Rattle.clr_heap.specs.View.{segment_at}
use Rattle.clr_moves.proofs.within.segment_below.Given as goal

abbrev pub invariant-loop-low : goal.invariant-loop-low
invariant-loop-low l = record {
  some : l.low < l.high;
  within : l.high ≤ length l.heap.segments;
  below : (l.low ≡ 0) ⊎ ((segment_at l.heap l.low).base ≤ l.place);
  above : (t : ℕ) → l.high ≤ t → t < length l.heap.segments → l.place < (segment_at l.heap t).base;
}

abbrev pub decreases-loop-low : goal.decreases-loop-low
decreases-loop-low l = l.high - l.low
