use Rattle.std.proofs.Common.{◌-◌, ◌≤◌}
use Rattle.clr_types.specs.Descriptors.{offsets_from}
use Rattle.clr_reloc.proofs.ObjectLoops.{HasPassed}
use Rattle.clr_reloc.proofs.words.relocate_sparse.Given as goal

abbrev pub invariant-loop-at : goal.invariant-loop-at
invariant-loop-at l =
    HasPassed l.work l.object l.initial.heap l.initial.pins l.initial.cards l.initial.last l.heap l.pins l.cards l.last
    (offsets_from l.run.offset l.at)
    × (l.at ≤ l.run.count)

abbrev pub decreases-loop-at : goal.decreases-loop-at
decreases-loop-at l = l.run.count - l.at
