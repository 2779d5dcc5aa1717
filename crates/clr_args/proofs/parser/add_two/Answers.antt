-- Each option adds its rule.
use Rattle.std.proofs.Common.{refl, ◌∙◌}
use Rattle.std.proofs.lemmas.Bool.{or_from}
use Rattle.std.proofs.lemmas.Result.{IfOk-weaker}
use Rattle.clr_args.proofs.Filled.{rule_added}
use Rattle.clr_args.proofs.parser.add_two.Goals as goal

pub returns-clause-shape : goal.returns-clause-shape
returns-clause-shape c =
    let first = rule_added _ _ _ _ _ (c.in_ok-arg.ensures.shape c.make_option.ensures.local)
    c.make_option.ensures.rule refl in
    IfOk-weaker c.arg-2.result _ _
    (λ made more. rule_added _ _ _ _ _ (more.shape c.make_option-2.ensures.local) c.make_option-2.ensures.rule first)
    c.arg-2.ensures

pub returns-clause-local : goal.returns-clause-local
returns-clause-local c = λ local.
    let first = c.in_ok-arg.ensures.globals ∙ or_from _ _ local c.make_option.ensures.local in
    IfOk-weaker c.arg-2.result _ _
    (λ made more. more.globals ∙ or_from _ _ first c.make_option-2.ensures.local) c.arg-2.ensures
