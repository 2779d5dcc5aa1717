-- The commands that are added have nothing but their names.
use Rattle.std.proofs.Common.{ap, refl}
use Rattle.std.proofs.lemmas.Result.{IfOk-weaker}
use Rattle.clr_args.specs.Parser.{filled_shape}
use Rattle.clap.specs.Simple.{App, app_of}
use Rattle.clr_args.proofs.Filled.{command_added}
use Rattle.clr_args.proofs.parser.add_looks.Goals as goal

pub returns : goal.returns
returns c =
    let inspect = command_added (app_of c.args.program) _ _ _ _ (c.in_ok-subcommand.ensures.shape c.new.ensures.local)
    (ap (λ (a : App). filled_shape a.top) c.new.ensures.app) refl in
    IfOk-weaker c.subcommand-2.result _ _
    (λ after more. command_added _ _ _ _ _ (more.shape c.new-2.ensures.local)
    (ap (λ (a : App). filled_shape a.top) c.new-2.ensures.app) inspect)
    c.subcommand-2.ensures
