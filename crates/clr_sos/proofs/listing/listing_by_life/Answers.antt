-- The search answers as the test does, at the places of objects.
use Rattle.std.proofs.Common.{◌≡◌, rules}
use Rattle.std.proofs.lemmas.Result.{IfOk-weaker}
use Rattle.clr_model.specs.Reach.{Live}
use Rattle.clr_sos.specs.Reaching.{is_listed, is_seen}
use Rattle.clr_sos.proofs.ListingTexts.{answer-told, item-stands, item-word}
use Rattle.clr_sos.proofs.ViewNames.{sound_shown}
use Rattle.clr_sos.proofs.listing.listing_by_life.Goals as goal

pub reach_all-requires : goal.reach_all-requires
reach_all-requires c = record { sound = sound_shown c.args.view.now c.requires.shown }

pub listing_where-requires-clause-ask : goal.listing_where-requires-clause-ask
listing_where-requires-clause-ask c = λ i is some κs p e a l. (
  c.requires.shown.heap,
  item-word c.args.view.now.types.now c.args.view.now.heap.now c.requires.shown.heap c.requires.shown.held i is,
)

pub returns : goal.returns
returns c =
    let rows = c.args.view.now.types.now in
    let h = c.args.view.now.heap.now in
    let seen = c.in_ok-reached.reached.seen.items in
    let entries = c.in_ok-reached.reached.entries.items in
    IfOk-weaker c.listing_where.result _ _ (λ text told m is live tests.
    told live (λ i at some answer a.
    let here : answer ≡ is_seen h seen i.place = search rules in
    answer-told (Live m) answer (is_seen h seen i.place) (is_listed entries) live i.place here
    (c.in_ok-reached.ensures.seen i.place (item-stands rows h c.requires.shown.heap c.requires.shown.held i at some))
    (c.in_ok-reached.ensures.exact m is) tests))
    c.listing_where.ensures.text
