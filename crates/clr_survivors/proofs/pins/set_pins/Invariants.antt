use Rattle.clr_survivors.proofs.Pinning.{HasPinsFrom}
use Rattle.clr_survivors.proofs.pins.set_pins.Given as goal

abbrev pub invariant-loop-number : goal.invariant-loop-number
invariant-loop-number l = HasPinsFrom l.types l.initial.heap l.heap l.handles l.low l.before l.on

abbrev pub decreases-loop-number : goal.decreases-loop-number
decreases-loop-number l = l.before
