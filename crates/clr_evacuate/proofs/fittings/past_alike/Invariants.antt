use Rattle.std.proofs.Common.{◌-◌}
use Rattle.clr_evacuate.specs.Fittings.{ArePassed}
use Rattle.clr_evacuate.proofs.fittings.past_alike.Given as goal

abbrev pub invariant-loop-place : goal.invariant-loop-place
invariant-loop-place l = ArePassed l.types l.heap l.k l.from l.end l.may l.place

abbrev pub decreases-loop-place : goal.decreases-loop-place
decreases-loop-place l = l.end - l.place
