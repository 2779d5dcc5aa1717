use Rattle.std.proofs.Common.{◌≡◌, ℕ, ◌<◌, ◌≤◌, true}
use Rattle.clr_cards.specs.Cards.{is_card_set}
use Rattle.clr_covers.specs.Covers.{spans}
use Rattle.clr_generations.proofs.standing.set_between.Given as goal

abbrev pub invariant-loop-card : goal.invariant-loop-card
invariant-loop-card l = record {
  set : (i : ℕ) → l.from ≤ i → i < l.card → is_card_set l.cards i ≡ true;
  kept : (i : ℕ) → is_card_set l.initial.cards i ≡ true → is_card_set l.cards i ≡ true;
  spans : spans l.cards ≡ spans l.initial.cards;
}
