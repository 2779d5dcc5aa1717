-- The commands that are added to the bare program are its own.
use Rattle.std.proofs.Common.{[], ap, ◌∙◌, codes}
use Rattle.std.proofs.lemmas.Result.{IfOk-weaker}
use Rattle.clap.specs.Simple.{App, with_subcommand}
use Rattle.clr_args.specs.Grammar.{budget_names, open_places, option_names, soak_places}
use Rattle.clr_args.specs.Parser.{command_shape}
use Rattle.clr_args.proofs.parser.make_program.Goals as goal

pub returns : goal.returns
returns c =
    let run = c.in_ok-with_run.ensures
    ∙ ap (λ (a : App). with_subcommand a (command_shape (codes "run") option_names [])) c.make_bare.ensures in
    let soak = c.in_ok-with_soak.ensures
    ∙ ap (λ (a : App). with_subcommand a (command_shape (codes "soak") option_names soak_places)) run in
    let image = c.in_ok-with_image.ensures
    ∙ ap (λ (a : App). with_subcommand a (command_shape (codes "image") option_names [])) soak in
    let looks = c.in_ok-with_looks.ensures
    ∙ ap (λ (a : App). with_subcommand (with_subcommand a (command_shape (codes "inspect") [] []))
    (command_shape (codes "migrate") [] [])) image in
    IfOk-weaker c.add_open.result _ _
    (λ made is. is ∙ ap (λ (a : App). with_subcommand a (command_shape (codes "open") budget_names open_places)) looks)
    c.add_open.ensures
