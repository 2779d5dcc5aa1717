use Rattle.std.proofs.Common.{◌-◌}
use Rattle.clr_evacuate.proofs.CarryingBricks.{KeepBricks}
use Rattle.clr_evacuate.proofs.GoingOn.{IsGoingOn}
use Rattle.clr_evacuate.proofs.evacuating.carry_between.Given as goal

abbrev pub invariant-loop-plug : goal.invariant-loop-plug
invariant-loop-plug l =
    IsGoingOn l.types l.initial.heap l.heap l.k l.from l.end l.place l.bytes l.hints.hints
    × KeepBricks l.types l.initial.heap l.heap l.initial.bricks l.bricks

abbrev pub decreases-loop-plug : goal.decreases-loop-plug
decreases-loop-plug l = l.end - l.place
