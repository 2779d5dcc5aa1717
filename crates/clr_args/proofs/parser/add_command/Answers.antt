-- The command that is added has the options.
use Rattle.std.proofs.Common.{ap, refl, ◌∙◌}
use Rattle.std.proofs.lemmas.Result.{IfOk-weaker}
use Rattle.clap.specs.Simple.{App, app_of}
use Rattle.clr_args.specs.Parser.{filled_app, with_options}
use Rattle.clr_args.proofs.Filled.{command_added}
use Rattle.clr_args.proofs.parser.add_command.Goals as goal

pub returns : goal.returns
returns c =
    let made = c.in_ok-command.ensures.shape ∙ ap (λ (a : App). with_options (filled_app a)) c.new.ensures.app in
    let local = c.in_ok-command.ensures.local c.new.ensures.local in
    IfOk-weaker c.subcommand.result _ _
    (λ after more. command_added (app_of c.args.program) _ _ _ _ (more.shape local) (ap (λ (a : App). a.top) made) refl)
    c.subcommand.ensures
