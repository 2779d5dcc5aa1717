-- The cards and the bricks of a heap.
use Rattle.std.specs.Prelude.{◌≡◌, ℕ, ◌/◌, true, List, map, ℤ}
use Rattle.clr_types.specs.Segments.{Layout}
use Rattle.clr_types.specs.Types.{TypeRow}
use Rattle.clr_types.specs.declared.segment.SegInfo.{SegInfo}
use Rattle.clr_covers.specs.Covers.{CoverView, spans}
use Rattle.clr_cards.specs.Cards.{is_card_set}
use Rattle.clr_bricks.specs.Bricks.{entry_at}
use Rattle.clr_heap.specs.View.{frame, HeapView}
use Rattle.clr_view.specs.View.{objects_in}
use Rattle.clr_generations.specs.Laws.{BrickLaw, NamesYounger}

-- the numbers of the first unit of a segment and of its units, each of so many bytes
abbrev pub units_of : ℕ → SegInfo → ℕ × ℕ
units_of unit s = (s.base / unit, s.reserved / unit)

-- each segment has cards for all that it reserves, and nothing else has
abbrev pub AreCardsOf : Layout → List (CoverView ℕ) → Type 0
AreCardsOf layout cards = spans cards ≡ map (units_of 2048) layout.segments

-- each segment has bricks for all that it reserves, and nothing else has
abbrev pub AreBricksOf : Layout → List (CoverView ℤ) → Type 0
AreBricksOf layout bricks = spans bricks ≡ map (units_of 4096) layout.segments

-- The cards and bricks are those of this heap, and bricks obey their law. Where a slot names an object of a lower
-- generation, this holds of its address.
pub record AreTablesBy (rows : List TypeRow) (h : HeapView) (card_covers : List (CoverView ℕ))
    (brick_covers : List (CoverView ℤ)) (Holds : ℕ → Type 0) : Type 0 where
  pub cards : AreCardsOf (frame h) card_covers
  pub bricks : AreBricksOf (frame h) brick_covers
  pub card_law : (a : ℕ) → NamesYounger rows (frame h) (objects_in rows h) a → Holds a
  pub brick_law : BrickLaw rows (frame h) (objects_in rows h) (entry_at brick_covers)

-- cards obey their law, too
abbrev pub AreTablesOf : List TypeRow → HeapView → List (CoverView ℕ) → List (CoverView ℤ) → Type 0
AreTablesOf rows h cards bricks = AreTablesBy rows h cards bricks (λ a. is_card_set cards (a / 2048) ≡ true)
