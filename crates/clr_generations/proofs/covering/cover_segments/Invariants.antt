use Rattle.std.proofs.Common.{◌≡◌, ℕ, false, pos, map, take}
use Rattle.clr_bricks.specs.Bricks.{entry_at}
use Rattle.clr_cards.specs.Cards.{is_card_set}
use Rattle.clr_covers.specs.Covers.{spans}
use Rattle.clr_generations.specs.Tables.{units_of}
use Rattle.clr_generations.proofs.covering.cover_segments.Given as goal

abbrev pub invariant-loop-k : goal.invariant-loop-k
invariant-loop-k l = record {
  cards : spans l.cards ≡ map (units_of 2048) (take l.k l.heap.segments);
  bricks : spans l.bricks ≡ map (units_of 4096) (take l.k l.heap.segments);
  clear : (i : ℕ) → is_card_set l.cards i ≡ false;
  unnamed : (i : ℕ) → entry_at l.bricks i ≡ pos 0;
}
