-- What is known of a heap after its ephemeral segment was sealed, for the code that seals it.
use Rattle.std.proofs.Common.{◌≡◌, ℕ, ◌<◌, ◌≤◌, true, List, length, ap, sym, ◌∙◌, subst, ℤ}
use Rattle.clr_types.specs.Segments.{ephemeral, generation, stands_in}
use Rattle.clr_types.specs.Types.{TypeRow}
use Rattle.clr_bricks.specs.Bricks.{entry_at}
use Rattle.clr_covers.specs.Covers.{CoverView, spans}
use Rattle.clr_heap.specs.View.{first_of, frame, HeapView, IsHeap, last_of, no_rests, segment_at, with_ephemeral}
use Rattle.clr_model.specs.Allocation.{sealed}
use Rattle.clr_model.specs.Lawful.{IsLaid}
use Rattle.clr_model.specs.Machine.{Machine}
use Rattle.clr_view.specs.Memory.{IsMemoryOf}
use Rattle.clr_view.specs.View.{IsHeld, layout_in, objects_in}
use Rattle.clr_generations.specs.Laws.{AreEntered, IsBrickOf}
use Rattle.clr_generations.specs.Renewing.{HasBorder, HaveTold}
use Rattle.clr_generations.specs.Tables.{AreBricksOf, AreCardsOf, AreTablesOf}
use Rattle.clr_generations.proofs.AllBricks.{number-in}
use Rattle.clr_generations.proofs.KeptItems.{KeepsItems}
use Rattle.clr_collect.proofs.SealedHeaps.{sealed_kept, sealed_layout}
use Rattle.clr_collect.proofs.SealedTables.{sealed_aged, sealed_border, sealed_high, sealed_low, sealed_tables}
use Rattle.clr_collect.proofs.SealedTables.{sealed_told}

-- the bricks of segment k can be renewed, in which generation 0 began at `young`
pub record CanRenew (rows : List TypeRow) (new : HeapView) (k young : ℕ) (bricks : List (CoverView ℤ)) : Type 0 where
  pub low : first_of new k ≤ young
  pub high : young ≤ last_of new k
  pub aged : (place : ℕ) → stands_in (segment_at new k) place ≡ true → 0 < generation (frame new) place
  pub border : HasBorder rows new k young
  pub told : HaveTold rows new k young young (entry_at bricks)

module _ (rows : List TypeRow) (h : HeapView) (heap : IsHeap h) (held : IsHeld rows h) (none : h.rests ≡ no_rests)
    (size : ℕ) (new : HeapView) (is : new ≡ with_ephemeral h size) (new_heap : IsHeap new) where
  -- all items stay
  pub kept_sealed : KeepsItems rows h new
  kept_sealed =
      let P : HeapView → Type 0 = λ g. IsHeap g → KeepsItems rows h g in
      subst P (sym is) (sealed_kept rows h heap held none size) new_heap

  -- the layout is the sealed one
  pub layout_sealed : layout_in rows new ≡ sealed (layout_in rows h) size
  layout_sealed = ap (layout_in rows) is ∙ sealed_layout rows h heap held none size

  module _ (k : ℕ) (inside : k < length h.segments) (eph : segment_at h k ≡ ephemeral (frame h))
      (cards : List (CoverView ℕ)) (bricks mid : List (CoverView ℤ)) (t : AreTablesOf rows h cards bricks)
      (same : (i : ℕ) → entry_at mid i ≡ entry_at bricks i) where
    -- bricks can be renewed
    pub can_renew : (m : Machine) × IsMemoryOf rows h m × IsLaid m → (young : ℕ) → young ≡ h.start0
        → CanRenew rows new k young mid
    can_renew laid young at =
        let P : HeapView → Type 0 = λ g. IsHeap g → CanRenew rows g k h.start0 mid in
        subst (λ (y : ℕ). CanRenew rows new k y mid) (sym at) (subst P (sym is) (λ new_heap'. record {
          low = sealed_low rows h heap held none size new_heap' k inside eph laid;
          high = sealed_high rows h heap held none size new_heap' k inside eph laid;
          aged = sealed_aged rows h heap held none size new_heap' k inside eph;
          border = sealed_border rows h heap held none size new_heap' k inside eph laid;
          told = sealed_told rows h heap held none size new_heap' k inside eph bricks mid
              (t.brick_law (segment_at h k) (number-in h.segments k inside)) same;
        }) new_heap)

    -- and with them the tables are those of the new heap
    pub tables_sealed : (cards' : List (CoverView ℕ)) (bricks' : List (CoverView ℤ)) → AreCardsOf (frame new) cards'
        → AreBricksOf (frame new) mid → spans bricks' ≡ spans mid
        → ((b : ℕ) → (IsBrickOf (segment_at new k) b → ⊥) → entry_at bricks' b ≡ entry_at mid b)
        → AreEntered rows (frame new) (objects_in rows new) (entry_at bricks') (segment_at new k)
        → AreTablesOf rows new cards' bricks'
    tables_sealed cards' bricks' own_cards own_bricks whole =
        let P : HeapView → Type 0 = λ g. IsHeap g → AreCardsOf (frame g) cards' → AreBricksOf (frame g) bricks'
        → ((b : ℕ) → (IsBrickOf (segment_at g k) b → ⊥) → entry_at bricks' b ≡ entry_at mid b)
        → AreEntered rows (frame g) (objects_in rows g) (entry_at bricks') (segment_at g k)
        → AreTablesOf rows g cards' bricks' in
        subst P (sym is) (λ new_heap' own own' others. sealed_tables rows h heap held none size new_heap' k inside eph
        cards bricks t cards' mid bricks' same others own own') new_heap own_cards (whole ∙ own_bricks)
