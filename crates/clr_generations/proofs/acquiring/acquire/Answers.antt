use Rattle.std.proofs.Common.{◌≡◌, ◌/◌, true, ap, subst, sym}
use Rattle.clr_bricks.specs.Bricks.{entry_at, new_bricks}
use Rattle.clr_cards.specs.Cards.{clear_cards, is_card_set}
use Rattle.clr_covers.specs.Covers.{begins}
use Rattle.clr_generations.proofs.NewCovers.{begins_with, bricks_below_top, bricks_taken, cards_below_top, cards_taken}
use Rattle.clr_generations.proofs.NewCovers.{given_back}
use Rattle.clr_generations.proofs.acquiring.acquire.Goals as goal

pub cover-requires-clause-cards : goal.cover-requires-clause-cards
cover-requires-clause-cards c =
    cards_below_top c.args.heap.now c.lawful.ensures c.top-base.result c.top-base.ensures c.args.cards.now
    c.requires.cards

pub cover-requires-clause-bricks : goal.cover-requires-clause-bricks
cover-requires-clause-bricks c =
    bricks_below_top c.args.heap.now c.lawful.ensures c.top-base.result c.top-base.ensures c.args.bricks.now
    c.requires.bricks

pub remove-requires-clause-begins : goal.remove-requires-clause-begins
remove-requires-clause-begins c =
    subst (λ cards. begins cards (c.top-base.result / 2048) ≡ true) (sym c.in_ok-cover.ensures.cards)
    (begins_with (clear_cards c.top-base.result c.args.size) c.args.cards.now)

pub remove-requires-in-Err-clause-begins : goal.remove-requires-in-Err-clause-begins
remove-requires-in-Err-clause-begins c =
    subst (λ bricks. begins bricks (c.top-base.result / 4096) ≡ true) (sym c.in_ok-cover.ensures.bricks)
    (begins_with (new_bricks c.top-base.result c.args.size) c.args.bricks.now)

pub returns-in-Ok-clause-cards : goal.returns-in-Ok-clause-cards
returns-in-Ok-clause-cards c =
    cards_taken c.args.heap.now c.lawful.ensures c.top-base.result c.top-base.ensures c.args.kind c.args.size
    c.acquire.new.self c.in-Ok.ensures.acquired c.args.cards.now c.cover.new.cards c.requires.cards
    c.in_ok-cover.ensures.cards

pub returns-in-Ok-clause-bricks : goal.returns-in-Ok-clause-bricks
returns-in-Ok-clause-bricks c =
    bricks_taken c.args.heap.now c.lawful.ensures c.top-base.result c.top-base.ensures c.args.kind c.args.size
    c.acquire.new.self c.in-Ok.ensures.acquired c.args.bricks.now c.cover.new.bricks c.requires.bricks
    c.in_ok-cover.ensures.bricks

pub returns-in-Err-clause-set : goal.returns-in-Err-clause-set
returns-in-Err-clause-set c i =
    ap (λ cards. is_card_set cards i) (given_back (clear_cards c.top-base.result c.args.size) c.args.cards.now
    c.cover.new.cards c.remove.new.self
    (cards_below_top c.args.heap.now c.lawful.ensures c.top-base.result c.top-base.ensures c.args.cards.now
    c.requires.cards)
    c.in_ok-cover.ensures.cards c.remove.ensures.value)

pub returns-in-Err-clause-entries : goal.returns-in-Err-clause-entries
returns-in-Err-clause-entries c i =
    ap (λ bricks. entry_at bricks i) (given_back (new_bricks c.top-base.result c.args.size) c.args.bricks.now
    c.cover.new.bricks c.remove-in-Err.new.self
    (bricks_below_top c.args.heap.now c.lawful.ensures c.top-base.result c.top-base.ensures c.args.bricks.now
    c.requires.bricks)
    c.in_ok-cover.ensures.bricks c.remove-in-Err.ensures.value)

pub returns-in-Err-clause-same_cards : goal.returns-in-Err-clause-same_cards
returns-in-Err-clause-same_cards c =
    given_back (clear_cards c.top-base.result c.args.size) c.args.cards.now c.cover.new.cards c.remove.new.self
    (cards_below_top c.args.heap.now c.lawful.ensures c.top-base.result c.top-base.ensures c.args.cards.now
    c.requires.cards)
    c.in_ok-cover.ensures.cards c.remove.ensures.value

pub returns-in-Err-clause-same_bricks : goal.returns-in-Err-clause-same_bricks
returns-in-Err-clause-same_bricks c =
    given_back (new_bricks c.top-base.result c.args.size) c.args.bricks.now c.cover.new.bricks
    c.remove-in-Err.new.self
    (bricks_below_top c.args.heap.now c.lawful.ensures c.top-base.result c.top-base.ensures c.args.bricks.now
    c.requires.bricks)
    c.in_ok-cover.ensures.bricks c.remove-in-Err.ensures.value
