use Rattle.std.proofs.Common.{◌+◌, ◌-◌}
use Rattle.clr_evacuate.proofs.CarryingBricks.{KeepBricks}
use Rattle.clr_evacuate.proofs.CarryingRuns.{IsCarrying}
use Rattle.clr_evacuate.proofs.plugs.carry_plug.Given as goal

abbrev pub invariant-loop-place : goal.invariant-loop-place
invariant-loop-place l = IsCarrying l.types l.initial.heap l.heap l.plug l.item l.place
    × KeepBricks l.types l.initial.heap l.heap l.initial.bricks l.bricks

abbrev pub decreases-loop-place : goal.decreases-loop-place
decreases-loop-place l = l.plug.place + l.plug.size - l.place
