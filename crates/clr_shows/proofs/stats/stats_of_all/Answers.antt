-- Where nobody asks what the roots reach, all objects are taken to be live.
use Rattle.std.proofs.Common.{◌∙◌, false, true, ℕ, rules}
use Rattle.std.proofs.lemmas.Result.{IfOk-weaker}
use Rattle.clr_sos.proofs.ViewNames.{shown_view}
use Rattle.clr_shows.proofs.StatLines.{stats-told}
use Rattle.clr_shows.proofs.stats.stats_of_all.Goals as goal

pub returns : goal.returns
returns c =
    let all = λ (n : ℕ). true in
    IfOk-weaker c.stats_text.result _ _ (λ text told m is.
    told ∙ stats-told c.args.view.now m is (shown_view c.args.view.now c.requires) false all c.stats_of-stats.result
    (c.stats_of-stats.ensures all (λ i at some answer a. search rules)))
    c.stats_text.ensures
