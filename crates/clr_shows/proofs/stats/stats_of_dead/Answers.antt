-- The search answers as the test does, at the addresses of objects.
use Rattle.std.proofs.Common.{◌≡◌, ◌∙◌, rules, true}
use Rattle.std.proofs.lemmas.Result.{IfOk-weaker}
use Rattle.clr_sos.specs.Reaching.{is_listed, is_seen}
use Rattle.clr_sos.proofs.ListingTexts.{item-stands, item-word}
use Rattle.clr_sos.proofs.ViewNames.{shown_view, sound_shown}
use Rattle.clr_shows.proofs.StatLines.{stats-told}
use Rattle.clr_shows.proofs.stats.stats_of_dead.Goals as goal

pub reach_all-requires : goal.reach_all-requires
reach_all-requires c = record { sound = sound_shown c.args.view.now (shown_view c.args.view.now c.requires) }

pub stats_of-stats-requires-clause-ask : goal.stats_of-stats-requires-clause-ask
stats_of-stats-requires-clause-ask c = λ i is some κs p e a l.
    let shown = shown_view c.args.view.now c.requires in (
      shown.heap,
      item-word c.args.view.now.types.now c.args.view.now.heap.now shown.heap shown.held i is,
    )

pub returns : goal.returns
returns c =
    let rows = c.args.view.now.types.now in
    let h = c.args.view.now.heap.now in
    let shown = shown_view c.args.view.now c.requires in
    let seen = c.in_ok-reached.reached.seen.items in
    let entries = c.in_ok-reached.reached.entries.items in
    IfOk-weaker c.stats_text.result _ _ (λ text told m is. (
      is_listed entries,
      c.in_ok-reached.ensures.exact m is,
      told ∙ stats-told c.args.view.now m is shown true (is_listed entries) c.stats_of-stats.result
          (c.stats_of-stats.ensures (is_listed entries) (λ i at some answer a.
          let here : answer ≡ is_seen h seen i.place = search rules in
          here ∙ c.in_ok-reached.ensures.seen i.place (item-stands rows h shown.heap shown.held i at some))),
    ))
    c.stats_text.ensures
