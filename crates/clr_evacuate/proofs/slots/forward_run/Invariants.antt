use Rattle.clr_types.specs.Descriptors.{offsets_from}
use Rattle.clr_evacuate.specs.Forwarding.{IsForwarded, IsOffsetOf}
use Rattle.clr_evacuate.proofs.slots.forward_run.Given as goal

abbrev pub invariant-loop-i : goal.invariant-loop-i
invariant-loop-i l =
    IsForwarded l.types l.initial.heap l.heap l.initial.cards l.cards
    (λ a. IsOffsetOf l.found.place (offsets_from l.run.offset l.i) a)
