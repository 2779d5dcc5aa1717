use Rattle.std.proofs.Common.{◌-◌}
use Rattle.clr_evacuate.proofs.ClearingLoops.{IsClearing}
use Rattle.clr_evacuate.proofs.clearing.clear_between.Given as goal

abbrev pub invariant-loop-place : goal.invariant-loop-place
invariant-loop-place l = IsClearing l.types l.initial.heap l.heap l.k l.from l.place

abbrev pub decreases-loop-place : goal.decreases-loop-place
decreases-loop-place l = l.end - l.place
