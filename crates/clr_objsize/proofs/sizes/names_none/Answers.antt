-- The references are a run that was looked at, or the type has none.
use Rattle.std.proofs.Common.{◌∙◌, length, sym}
use Rattle.std.proofs.lemmas.Bool.{eqb-true}
use Rattle.clr_mark.proofs.Following.{none_left}
use Rattle.clr_objsize.proofs.LoneObjects.{typed-names_none}
use Rattle.clr_objsize.proofs.sizes.names_none.Goals as goal

pub reference_run-requires : goal.reference_run-requires
reference_run-requires c = c.requires.object.known

pub returns-in-None : goal.returns-in-None
returns-in-None c = λ empty.
    let none = none_left c.series.result.now (eqb-true (length c.series.result.now) 0
    (sym c.is_empty.ensures ∙ empty)) in
    typed-names_none c.args.view.now c.requires.sound c.args.item c.requires.object (sym c.series.ensures ∙ none)
