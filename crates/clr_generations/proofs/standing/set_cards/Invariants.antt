use Rattle.std.proofs.Common.{◌≡◌, ℕ, ◌/◌, ◌<◌, ◌≤◌, true}
use Rattle.clr_cards.specs.Cards.{is_card_set}
use Rattle.clr_covers.specs.Covers.{spans}
use Rattle.clr_heap.specs.View.{first_of, last_of}
use Rattle.clr_generations.proofs.standing.set_cards.Given as goal

abbrev pub invariant-loop-k : goal.invariant-loop-k
invariant-loop-k l = record {
  set : (j a : ℕ) → j < l.k → first_of l.heap j ≤ a → a < last_of l.heap j → is_card_set l.cards (a / 2048) ≡ true;
  spans : spans l.cards ≡ spans l.initial.cards;
}
