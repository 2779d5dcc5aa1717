use Rattle.clr_types.specs.Descriptors.{offsets_from}
use Rattle.clr_reloc.proofs.ObjectLoops.{HasPassed}
use Rattle.clr_reloc.proofs.objects.relocate_run.Given as goal

abbrev pub invariant-loop-i : goal.invariant-loop-i
invariant-loop-i l =
    HasPassed l.work l.object l.initial.heap l.initial.pins l.initial.cards l.initial.last l.heap l.pins l.cards l.last
    (offsets_from l.run.offset l.i)
