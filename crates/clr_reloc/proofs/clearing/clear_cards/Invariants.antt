use Rattle.std.proofs.Common.{◌≡◌, ℕ, ◌<◌, true}
use Rattle.clr_cards.specs.Cards.{is_card_set}
use Rattle.clr_covers.specs.Covers.{spans}
use Rattle.clr_heap.specs.View.{segment_at}
use Rattle.clr_types.specs.Segments.{reserved_end}
use Rattle.clr_reloc.specs.Clearing.{HaveCleared}
use Rattle.clr_reloc.proofs.clearing.clear_cards.Given as goal

abbrev pub invariant-loop-k : goal.invariant-loop-k
invariant-loop-k l = record {
  cleared : (j : ℕ) → j < l.k
      → HaveCleared l.initial.cards l.cards (segment_at l.heap j).base (reserved_end (segment_at l.heap j));
  kept : (i : ℕ) → is_card_set l.cards i ≡ true → is_card_set l.initial.cards i ≡ true;
  same : spans l.cards ≡ spans l.initial.cards;
}
