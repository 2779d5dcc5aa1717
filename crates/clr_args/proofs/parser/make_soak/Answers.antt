-- The options and the places are those of `soak`.
use Rattle.std.proofs.Common.{ap, ◌∙◌}
use Rattle.std.proofs.lemmas.Bool.{or_from}
use Rattle.std.proofs.lemmas.Result.{IfOk-weaker}
use Rattle.clap.specs.Simple.{App}
use Rattle.clr_args.specs.Parser.{filled_app, with_options}
use Rattle.clr_args.proofs.Filled.{rule_added}
use Rattle.clr_args.proofs.parser.make_soak.Goals as goal

pub returns-clause-shape : goal.returns-clause-shape
returns-clause-shape c =
    let made = c.in_ok-add_options.ensures.shape
    ∙ ap (λ (a : App). with_options (filled_app a)) c.new.ensures.app in
    let seed = rule_added _ _ _ _ _ (c.in_ok-arg.ensures.shape c.make_place.ensures.local)
    c.make_place.ensures.rule made in
    IfOk-weaker c.arg-2.result _ _
    (λ after more. ap (λ (a : App). a.top)
    (rule_added _ _ _ _ _ (more.shape c.make_place-2.ensures.local) c.make_place-2.ensures.rule seed))
    c.arg-2.ensures

pub returns-clause-local : goal.returns-clause-local
returns-clause-local c =
    let made = c.in_ok-add_options.ensures.local c.new.ensures.local in
    let seed = c.in_ok-arg.ensures.globals ∙ or_from _ _ made c.make_place.ensures.local in
    IfOk-weaker c.arg-2.result _ _
    (λ after more. more.globals ∙ or_from _ _ seed c.make_place-2.ensures.local) c.arg-2.ensures
