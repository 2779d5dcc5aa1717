use Rattle.std.proofs.Common.{◌≡◌, ◌+◌, map}
use Rattle.clr_types.specs.Descriptors.{offsets_from}
use Rattle.clr_sos.specs.Windows.{lowest_bad}
use Rattle.clr_sos.proofs.verify.references.judge_run.Given as goal

abbrev pub invariant-loop-i : goal.invariant-loop-i
invariant-loop-i l =
    l.low
    ≡ lowest_bad l.judge l.initial.low (map (λ offset. l.item.place + offset) (offsets_from l.run.offset l.i))
