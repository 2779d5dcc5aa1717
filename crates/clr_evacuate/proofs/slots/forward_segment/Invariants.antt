use Rattle.std.proofs.Common.{◌-◌}
use Rattle.clr_heap.specs.View.{first_of, last_of}
use Rattle.clr_evacuate.specs.Forwarding.{IsBetween, IsForwarded}
use Rattle.clr_evacuate.proofs.Walks.{IsWalking}
use Rattle.clr_evacuate.proofs.slots.forward_segment.Given as goal

abbrev pub invariant-loop-place : goal.invariant-loop-place
invariant-loop-place l = record {
  walking : IsWalking l.types l.initial.heap l.k l.place (last_of l.initial.heap l.k);
  forwarded : IsForwarded l.types l.initial.heap l.heap l.initial.cards l.cards
      (λ a. IsBetween (first_of l.initial.heap l.k) l.place a);
}

abbrev pub decreases-loop-place : goal.decreases-loop-place
decreases-loop-place l = l.segment.end - l.place
