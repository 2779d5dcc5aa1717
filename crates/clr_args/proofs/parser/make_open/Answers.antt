-- The options and the place are those of `open`.
use Rattle.std.proofs.Common.{ap, ◌∙◌}
use Rattle.std.proofs.lemmas.Bool.{or_from}
use Rattle.std.proofs.lemmas.Result.{IfOk-weaker}
use Rattle.clap.specs.Simple.{App}
use Rattle.clr_args.specs.Parser.{filled_app, with_budgets}
use Rattle.clr_args.proofs.Filled.{rule_added}
use Rattle.clr_args.proofs.parser.make_open.Goals as goal

pub returns-clause-shape : goal.returns-clause-shape
returns-clause-shape c =
    let made = c.in_ok-optional.ensures.shape
    ∙ ap (λ (a : App). with_budgets (filled_app a)) c.new.ensures.app in
    IfOk-weaker c.arg.result _ _
    (λ after more. ap (λ (a : App). a.top)
    (rule_added _ _ _ _ _ (more.shape c.make_place.ensures.local) c.make_place.ensures.rule made))
    c.arg.ensures

pub returns-clause-local : goal.returns-clause-local
returns-clause-local c =
    let made = c.in_ok-optional.ensures.local c.new.ensures.local in
    IfOk-weaker c.arg.result _ _
    (λ after more. more.globals ∙ or_from _ _ made c.make_place.ensures.local) c.arg.ensures
