use Rattle.std.proofs.Common.{◌≡◌, ◌++◌}
use Rattle.clr_evacuate.specs.Forwarding.{IsForwarded, IsOffsetOf}
use Rattle.clr_evacuate.proofs.slots.forward_references.Given as goal

abbrev pub invariant-loop-offset : goal.invariant-loop-offset
invariant-loop-offset l = record {
  walked : l.yielded ++ l.offset-iterator ≡ l.initial.offset-iterator;
  done : IsForwarded l.types l.initial.heap l.heap l.initial.cards l.cards (λ a. IsOffsetOf l.found.place l.yielded a);
}
