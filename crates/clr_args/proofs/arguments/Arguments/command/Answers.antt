-- What the texts say is what the arguments say, and they say one thing.
use Rattle.std.proofs.Common.{◌≡◌, ◌∙◌, ap, subst, IfOk, List, None, Some, map, string_bytes}
use Rattle.std.proofs.lemmas.Result.{IfOk-weaker}
use Rattle.clr_args.specs.CommandLines.{IsSaid}
use Rattle.clr_args.specs.Grammar.{Text}
use Rattle.clr_args.specs.declared.command_line.CommandLine.TheVariants.{Inspect, Migrate, Open}
use Rattle.clr_args.proofs.Answering.{image_answered, one_thing, run_answered, soak_answered}
use Rattle.clr_args.proofs.arguments.Arguments.command.Goals as goal

pub returns : goal.returns
returns c =
    let arguments = c.args.self.now in
    let are : map (λ w. string_bytes w) c.as_slice.result.now ≡ arguments =
    ap (map (λ w. string_bytes w)) c.as_slice.ensures.value ∙ c.self.view_is in
    let said = subst (λ (ws : List Text). IfOk c.read.result (IsSaid ws)) are c.read.ensures in
    record {
      said = said;
      run = λ options says. IfOk-weaker c.read.result _ _ (run_answered arguments options says) said;
      soak = λ options seed count says. IfOk-weaker c.read.result _ _
          (soak_answered arguments options seed count says) said;
      image = λ options says. IfOk-weaker c.read.result _ _ (image_answered arguments options says) said;
      inspect = λ says. IfOk-weaker c.read.result _ _
          (λ line is. one_thing arguments line (Some Inspect) is says) said;
      migrate = λ says. IfOk-weaker c.read.result _ _
          (λ line is. one_thing arguments line (Some Migrate) is says) said;
      opens = λ budgets path says. IfOk-weaker c.read.result _ _
          (λ line is. one_thing arguments line (Some (Open budgets)) is (path, says)) said;
      nothing = λ nothing. IfOk-weaker c.read.result _ _ (λ line is. one_thing arguments line None is nothing) said;
    }
