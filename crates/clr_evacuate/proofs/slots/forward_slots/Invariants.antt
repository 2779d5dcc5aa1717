use Rattle.clr_evacuate.specs.Forwarding.{IsForwarded}
use Rattle.clr_evacuate.proofs.Loops.{IsInFirst}
use Rattle.clr_evacuate.proofs.slots.forward_slots.Given as goal

abbrev pub invariant-loop-k : goal.invariant-loop-k
invariant-loop-k l =
    IsForwarded l.types l.initial.heap l.heap l.initial.cards l.cards (λ a. IsInFirst l.initial.heap l.k a)
