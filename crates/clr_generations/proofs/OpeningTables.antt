-- Cards and bricks of a heap without objects, as at the start.
use Rattle.std.proofs.Common.{◌≡◌, ℕ, ◌+◌, ◌%◌, List, [], sym, ◌∙◌, subst, arith, ℤ, pos}
use Rattle.clr_types.specs.Rising.{IsIn}
use Rattle.clr_types.specs.Types.{TypeRow}
use Rattle.clr_covers.specs.Covers.{CoverView}
use Rattle.clr_bricks.specs.Bricks.{entry_at, root_entry}
use Rattle.clr_heap.specs.View.{frame, HeapView, opening_heap}
use Rattle.clr_model.specs.Machine.{Object}
use Rattle.clr_view.specs.View.{objects_in}
use Rattle.clr_view.proofs.Opening.{no_objects}
use Rattle.clr_generations.specs.Tables.{AreBricksOf, AreCardsOf, AreTablesOf}

module _ (rows : List TypeRow) (h : HeapView) (empty : objects_in rows h ≡ []) (cards : List (CoverView ℕ))
    (bricks : List (CoverView ℤ)) (unnamed : (i : ℕ) → entry_at bricks i ≡ pos 0) where
  -- no object is there
  none-there : (o : Object) → IsIn o (objects_in rows h) → ⊥
  none-there o i = let none : IsIn o [] = subst (IsIn o) empty i in elim none [ ]

  -- no brick names an offset
  no-root : (brick offset : ℕ) → entry_at bricks brick ≡ root_entry offset → ⊥
  no-root brick offset e =
      let zero_is : pos 0 ≡ pos (offset + 1) = sym (unnamed brick) ∙ e in
      let none : 0 ≡ offset + 1 = cc in
      omega arith

  -- A HEAP WITHOUT OBJECTS: any cards and bricks without entries that cover it are its own
  pub tables-empty : AreCardsOf (frame h) cards → AreBricksOf (frame h) bricks → AreTablesOf rows h cards bricks
  tables-empty own_cards own_bricks = record {
    cards = own_cards;
    bricks = own_bricks;
    card_law = λ a y. absurd (none-there y.object y.present);
    brick_law = λ s i. record {
      named = λ brick offset own e. absurd (no-root brick offset e);
      starts = λ place s inside may. absurd (none-there s.0 s.1);
      reached = λ brick own r. absurd (none-there r.object r.present);
    };
  }

-- THE START
pub tables-opening : (rows : List TypeRow) (segment limit : ℕ) → segment % 4096 ≡ 0 → (cards : List (CoverView ℕ))
    (bricks : List (CoverView ℤ)) → ((i : ℕ) → entry_at bricks i ≡ pos 0)
    → AreCardsOf (frame (opening_heap segment limit)) cards → AreBricksOf (frame (opening_heap segment limit)) bricks
    → AreTablesOf rows (opening_heap segment limit) cards bricks
tables-opening rows segment limit aligned cards bricks unnamed =
    tables-empty rows (opening_heap segment limit) (no_objects rows segment limit aligned) cards bricks unnamed
