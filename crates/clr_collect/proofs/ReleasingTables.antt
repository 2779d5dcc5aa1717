-- Cards and bricks while segments are given back.
use Rattle.std.proofs.Common.{◌≡◌, ℕ, suc, ◌/◌, ◌<◌, ◌≤◌, false, true, List, length, get_or, ap, ◌∙◌, arith}
use Rattle.std.specs.List.{remove}
use Rattle.std.specs.Prelude.{ℤ}
use Rattle.clr_types.specs.Types.{TypeRow}
use Rattle.clr_bricks.specs.Bricks.{entry_at}
use Rattle.clr_cards.specs.Cards.{is_card_set}
use Rattle.clr_covers.specs.Covers.{begins, CoverView, is_covered, spans}
use Rattle.clr_heap.specs.View.{first_of, HeapView, IsHeap, last_of, no_rests, segment_at}
use Rattle.clr_heap.proofs.Framing.{lawful_at}
use Rattle.clr_view.specs.View.{IsHeld}
use Rattle.clr_generations.specs.Tables.{AreTablesOf}
use Rattle.clr_collect.specs.Released.{first_large, HasReleased, is_needed}
use Rattle.clr_collect.proofs.CoveredSegments.{segment-in, segment_begins}
use Rattle.clr_collect.proofs.ReleasedTables.{tables_left}
use Rattle.clr_collect.proofs.Releases.{in_range, IsReleasing, releasing_ends, releasing_kept, releasing_lost}
use Rattle.clr_collect.proofs.Releases.{releasing_starts, spare}
use Rattle.clr_collect.proofs.SegmentsLost.{segment_lost}

-- the segments from number `left` on are those that are needed, and cards and bricks are those of what is there
pub record IsReleasingTables (rows : List TypeRow) (old now : HeapView) (base left : ℕ)
    (card_covers : List (CoverView ℕ)) (brick_covers : List (CoverView ℤ)) : Type 0 where
  pub releasing : IsReleasing rows old now base left
  pub tables : AreTablesOf rows now card_covers brick_covers

pub tables_start : (rows : List TypeRow) (h : HeapView) (base left : ℕ) (cards : List (CoverView ℕ))
    (bricks : List (CoverView ℤ)) → IsHeap h → IsHeld rows h → left ≡ length h.segments
    → AreTablesOf rows h cards bricks → IsReleasingTables rows h h base left cards bricks
tables_start rows h base left cards bricks heap held all tables =
    record { releasing = releasing_starts rows h base left heap held all; tables = tables }

module _ (rows : List TypeRow) (old now : HeapView) (base left k : ℕ) (next : left ≡ suc k)
    (cards : List (CoverView ℕ)) (bricks : List (CoverView ℤ))
    (r : IsReleasingTables rows old now base left cards bricks) where
  inside : k < length now.segments
  inside = in_range rows old now base left k next r.releasing

  -- covers begin where segment k does
  pub cards_begin : begins cards ((segment_at now k).base / 2048) ≡ true
  cards_begin =
      segment_begins 2048 cards now.segments r.tables.cards (segment_at now k) (segment-in now.segments k inside)

  pub bricks_begin : begins bricks ((segment_at now k).base / 4096) ≡ true
  bricks_begin =
      segment_begins 4096 bricks now.segments r.tables.bricks (segment_at now k) (segment-in now.segments k inside)

  -- it is needed
  pub tables_kept : is_needed base (segment_at now k) ≡ true → IsReleasingTables rows old now base k cards bricks
  tables_kept on = record {
    releasing = releasing_kept rows old now base left k next r.releasing on;
    tables = r.tables;
  }

  -- it is given back
  pub tables_lost : (new : HeapView) (cards' : List (CoverView ℕ)) (bricks' : List (CoverView ℤ))
      → is_needed base (segment_at now k) ≡ false → old.rests ≡ no_rests
      → new ≡ record now { memories = remove now.memories k; segments = remove now.segments k }
      → ((i : ℕ) → is_covered cards' i ≡ true → is_card_set cards' i ≡ is_card_set cards i)
      → ((i : ℕ) → is_covered bricks' i ≡ true → entry_at bricks' i ≡ entry_at bricks i)
      → ((j : ℕ) → j < length cards → (get_or (spans cards) j (0, 0)).0 ≡ (segment_at now k).base / 2048
      → spans cards' ≡ remove (spans cards) j)
      → ((j : ℕ) → j < length bricks → (get_or (spans bricks) j (0, 0)).0 ≡ (segment_at now k).base / 4096
      → spans bricks' ≡ remove (spans bricks) j)
      → IsReleasingTables rows old new base k cards' bricks'
  tables_lost new cards' bricks' off none is sets entries card_spans brick_spans =
      let lost = r.releasing.lost in
      let low = (lawful_at now k lost.heap inside).low in
      let idle = spare base (segment_at now k) off in
      let high = idle.0 in
      let empty : last_of now k ≡ first_of now k = omega arith in
      let rests : now.rests ≡ no_rests = ap (λ (g : HeapView). g.rests) lost.others ∙ none in
      record {
        releasing = releasing_lost rows old now base left k next r.releasing new off none is;
        tables =
            tables_left rows now lost.heap lost.held k inside empty idle.1 (remove now.memories k) new is
            (segment_lost rows now lost.heap lost.held k inside empty new is rests idle.1) cards bricks r.tables
            cards' bricks' sets entries card_spans brick_spans;
      }

-- at the end exactly the needed ones are left
pub tables_end : (rows : List TypeRow) (old now : HeapView) (base left : ℕ) (cards : List (CoverView ℕ))
    (bricks : List (CoverView ℤ)) → base ≡ first_large old → left ≤ 0
    → IsReleasingTables rows old now base left cards bricks → HasReleased rows old now
tables_end rows old now base left cards bricks is none r =
    releasing_ends rows old now base left is none r.releasing
