use Rattle.std.proofs.Common.{◌-◌}
use Rattle.clr_plugs.proofs.Writing.{IsAdvancing}
use Rattle.clr_plugs.proofs.writer.advance.Given as goal

abbrev pub invariant-loop-heap : goal.invariant-loop-heap
invariant-loop-heap l =
    IsAdvancing l.initial.heap l.heap l.initial.bricks l.bricks l.initial.builder l.builder l.last l.brick

abbrev pub decreases-loop-heap : goal.decreases-loop-heap
decreases-loop-heap l = l.brick - l.builder.brick
