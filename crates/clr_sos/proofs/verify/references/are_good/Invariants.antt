use Rattle.std.proofs.Common.{◌≡◌, not, drop}
use Rattle.std.specs.List.{list_all}
use Rattle.clr_sos.specs.Windows.{is_bad_by}
use Rattle.clr_sos.proofs.verify.references.are_good.Given as goal

abbrev pub invariant-loop-name : goal.invariant-loop-name
invariant-loop-name l =
    list_all (λ name. not (is_bad_by l.judge.window l.judge.bits.now name)) (drop l.name-index l.locals)
    ≡ list_all (λ name. not (is_bad_by l.judge.window l.judge.bits.now name)) l.locals
