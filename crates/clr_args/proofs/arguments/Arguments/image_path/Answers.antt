-- The path of the texts is the path of the arguments, and they say one.
use Rattle.std.proofs.Common.{◌≡◌, ◌∙◌, ap, subst, IfOk, List, map, option_map, string_bytes}
use Rattle.std.proofs.lemmas.Result.{IfOk-weaker}
use Rattle.clr_args.specs.CommandLines.{IsPathSaid}
use Rattle.clr_args.specs.Grammar.{Text}
use Rattle.clr_args.proofs.Answering.{path_is}
use Rattle.clr_args.proofs.arguments.Arguments.image_path.Goals as goal

pub returns : goal.returns
returns c =
    let arguments = c.args.self.now in
    let are : map (λ w. string_bytes w) c.as_slice.result.now ≡ arguments =
    ap (map (λ w. string_bytes w)) c.as_slice.ensures.value ∙ c.self.view_is in
    let said =
    subst (λ (ws : List Text). IfOk c.image_path.result (λ path. IsPathSaid ws (option_map (λ t. t.now) path))) are
    c.image_path.ensures in
    record {
      said = said;
      opens = λ budgets path says. IfOk-weaker c.image_path.result _ _
          (λ found is. path_is arguments (option_map (λ t. t.now) found) is budgets path says) said;
    }
