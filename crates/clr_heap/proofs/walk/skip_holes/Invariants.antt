use Rattle.std.proofs.Common.{◌≡◌, ◌-◌, ◌≤◌}
use Rattle.clr_heap.specs.View.{CanWalk, items_between, sight}
use Rattle.clr_heap.proofs.walk.skip_holes.Given as goal

abbrev pub invariant-loop-place : goal.invariant-loop-place
invariant-loop-place l = record {
  walk : CanWalk (sight l.types l.heap l.k) l.heap.memories l.place l.end;
  same : items_between (sight l.types l.heap l.k) l.place l.end ≡ items_between (sight l.types l.heap l.k) l.from l.end;
  up : l.from ≤ l.place;
}

abbrev pub decreases-loop-place : goal.decreases-loop-place
decreases-loop-place l = l.end - l.place
