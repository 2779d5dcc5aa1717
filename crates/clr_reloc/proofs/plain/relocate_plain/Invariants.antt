use Rattle.std.proofs.Common.{◌≡◌, length}
use Rattle.clr_types.specs.Descriptors.{offsets_from}
use Rattle.clr_reloc.proofs.LookingAhead.{AreAhead}
use Rattle.clr_reloc.proofs.ObjectLoops.{HasPassed}
use Rattle.clr_reloc.proofs.plain.relocate_plain.Given as goal

abbrev pub invariant-loop-i : goal.invariant-loop-i
invariant-loop-i l = record {
  passed : HasPassed l.work l.object l.initial.heap l.pins l.initial.cards l.initial.last l.heap l.pins l.cards l.last
      (offsets_from l.run.offset l.i);
  ahead : AreAhead l.work l.object l.initial.heap l.pins l.initial.cards l.initial.last l.ahead;
  room : length l.ahead ≡ 8;
}
