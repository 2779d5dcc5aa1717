use Rattle.std.proofs.Common.{◌≡◌, ◌/◌, true, ap, subst, sym}
use Rattle.clr_cards.specs.Cards.{clear_cards, is_card_set}
use Rattle.clr_covers.specs.Covers.{begins, spans}
use Rattle.clr_covers.proofs.Spans.{free_above}
use Rattle.clr_generations.proofs.NewCovers.{begins_with, ends_below, given_back}
use Rattle.clr_generations.proofs.acquiring.cover.Goals as goal

pub add-requires-clause-free : goal.add-requires-clause-free
add-requires-clause-free c =
    free_above c.args.cards.now _ _ (ends_below (c.args.base / 2048) (spans c.args.cards.now) c.requires.cards)

pub add-requires-2-clause-free : goal.add-requires-2-clause-free
add-requires-2-clause-free c =
    free_above c.args.bricks.now _ _ (ends_below (c.args.base / 4096) (spans c.args.bricks.now) c.requires.bricks)

pub remove-requires-clause-begins : goal.remove-requires-clause-begins
remove-requires-clause-begins c =
    subst (λ cards. begins cards (c.args.base / 2048) ≡ true) (sym c.in_ok-add.ensures.ok)
    (begins_with _ c.args.cards.now)

pub returns-in-Err-clause-set : goal.returns-in-Err-clause-set
returns-in-Err-clause-set c i =
    ap (λ cards. is_card_set cards i) (given_back (clear_cards c.args.base c.args.size) c.args.cards.now
    c.add.new.self c.remove.new.self c.requires.cards c.in_ok-add.ensures.ok c.remove.ensures.value)

pub returns-in-Err-clause-same_cards : goal.returns-in-Err-clause-same_cards
returns-in-Err-clause-same_cards c =
    given_back (clear_cards c.args.base c.args.size) c.args.cards.now c.add.new.self c.remove.new.self
    c.requires.cards c.in_ok-add.ensures.ok c.remove.ensures.value
