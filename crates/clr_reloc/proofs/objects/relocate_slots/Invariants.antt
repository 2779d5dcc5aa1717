use Rattle.std.proofs.Common.{◌≡◌, ◌++◌}
use Rattle.clr_reloc.proofs.ObjectLoops.{HasPassed}
use Rattle.clr_reloc.proofs.objects.relocate_slots.Given as goal

abbrev pub invariant-loop-offset : goal.invariant-loop-offset
invariant-loop-offset l = record {
  walked : l.yielded ++ l.offset-iterator ≡ l.initial.offset-iterator;
  passed : HasPassed l.work l.object l.initial.heap l.initial.pins l.initial.cards l.initial.last l.heap l.pins l.cards
      l.last l.yielded;
}
