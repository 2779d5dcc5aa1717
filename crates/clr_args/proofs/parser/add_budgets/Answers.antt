-- The options are added two by two, and the last alone.
use Rattle.std.proofs.Common.{ap, ◌∙◌, codes}
use Rattle.std.proofs.lemmas.Bool.{or_from}
use Rattle.std.proofs.lemmas.Result.{IfOk-weaker}
use Rattle.clr_args.specs.Parser.{with_two}
use Rattle.clr_args.proofs.Filled.{rule_added}
use Rattle.clr_args.proofs.parser.add_budgets.Goals as goal

pub returns-clause-shape : goal.returns-clause-shape
returns-clause-shape c =
    let older = c.in_ok-older.ensures.shape ∙ ap (with_two (codes "b2") (codes "bl")) c.in_ok-younger.ensures.shape in
    IfOk-weaker c.arg.result _ _
    (λ made more. rule_added _ _ _ _ _ (more.shape c.make_option.ensures.local) c.make_option.ensures.rule older)
    c.arg.ensures

pub returns-clause-local : goal.returns-clause-local
returns-clause-local c = λ local.
    let older = c.in_ok-older.ensures.local (c.in_ok-younger.ensures.local local) in
    IfOk-weaker c.arg.result _ _
    (λ made more. more.globals ∙ or_from _ _ older c.make_option.ensures.local) c.arg.ensures
