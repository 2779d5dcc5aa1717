-- The command that is added is `open`.
use Rattle.std.proofs.Common.{refl}
use Rattle.std.proofs.lemmas.Result.{IfOk-weaker}
use Rattle.clap.specs.Simple.{app_of}
use Rattle.clr_args.proofs.Filled.{command_added}
use Rattle.clr_args.proofs.parser.add_open.Goals as goal

pub returns : goal.returns
returns c =
    IfOk-weaker c.subcommand.result _ _
    (λ after more. command_added (app_of c.args.program) _ _ _ _ (more.shape c.in_ok-command.ensures.local)
    c.in_ok-command.ensures.shape refl)
    c.subcommand.ensures
