-- The options for budgets are added between others.
use Rattle.std.proofs.Common.{ap, ◌∙◌}
use Rattle.std.proofs.lemmas.Bool.{or_from}
use Rattle.std.proofs.lemmas.Result.{IfOk-weaker}
use Rattle.clr_args.specs.Parser.{with_budgets}
use Rattle.clr_args.proofs.Filled.{rule_added}
use Rattle.clr_args.proofs.parser.add_options.Goals as goal

pub returns-clause-shape : goal.returns-clause-shape
returns-clause-shape c =
    let budgeted = c.in_ok-budgeted.ensures.shape ∙ ap with_budgets c.in_ok-sized.ensures.shape in
    IfOk-weaker c.arg.result _ _
    (λ made more. rule_added _ _ _ _ _ (more.shape c.make_option.ensures.local) c.make_option.ensures.rule budgeted)
    c.arg.ensures

pub returns-clause-local : goal.returns-clause-local
returns-clause-local c = λ local.
    let budgeted = c.in_ok-budgeted.ensures.local (c.in_ok-sized.ensures.local local) in
    IfOk-weaker c.arg.result _ _
    (λ made more. more.globals ∙ or_from _ _ budgeted c.make_option.ensures.local) c.arg.ensures
