use Rattle.std.proofs.Common.{◌-◌, ◌≤◌}
use Rattle.clr_reloc.proofs.CardedSlots.{AreSlotsPassed}
use Rattle.clr_reloc.proofs.objects.relocate_carded_slots.Given as goal

abbrev pub invariant-loop-at : goal.invariant-loop-at
invariant-loop-at l =
    AreSlotsPassed l.work l.object l.initial.heap l.initial.pins l.initial.cards l.initial.last l.heap l.pins l.cards
    l.last l.at
    × (l.at ≤ l.count)

abbrev pub decreases-loop-at : goal.decreases-loop-at
decreases-loop-at l = l.count - l.at
