-- The cards and bricks of a heap whose ephemeral segment is sealed.
use Rattle.std.proofs.Common.{◌≡◌, ◌≢◌, inl, inr, ℕ, ◌+◌, ◌/◌, ◌<◌, ◌≤◌, true, false, Bool}
use Rattle.std.proofs.Common.{List, length, refl, sym, ◌∙◌, subst, arith, ℤ}
use Rattle.std.proofs.lemmas.Bool.{cases_Bool, cases_eq, cases_lt}
use Rattle.clr_types.specs.Rising.{IsIn}
use Rattle.clr_types.specs.Segments.{ephemeral, generation, opening_segment, reserved_end, sealed_segment, stands_in}
use Rattle.clr_types.specs.Types.{TypeRow}
use Rattle.clr_types.specs.declared.segment.SegInfo.{SegInfo}
use Rattle.clr_types.specs.declared.segment.SegKind.TheVariants.{Ephemeral}
use Rattle.clr_types.proofs.SegmentFacts.{stands-between}
use Rattle.clr_bricks.specs.Bricks.{entry_at}
use Rattle.clr_cards.specs.Cards.{is_card_set}
use Rattle.clr_covers.specs.Covers.{CoverView}
use Rattle.clr_heap.specs.View.{CanWalk, first_of, frame, HeapView, IsHeap, last_of, no_rests, segment_at, sight}
use Rattle.clr_heap.specs.View.{with_ephemeral}
use Rattle.clr_heap.proofs.Framing.{below_top_at}
use Rattle.clr_heap.proofs.Staying.{outside_other}
use Rattle.clr_model.specs.Lawful.{IsLaid}
use Rattle.clr_model.specs.Lookups.{object_size}
use Rattle.clr_model.specs.Machine.{Machine, Object}
use Rattle.clr_view.specs.Memory.{IsMemoryOf}
use Rattle.clr_view.specs.View.{IsHeld, objects_in}
use Rattle.clr_generations.specs.Laws.{AreEntered, IsBrickOf, NamesYounger}
use Rattle.clr_generations.specs.Renewing.{HasBorder, HaveTold}
use Rattle.clr_generations.specs.Tables.{AreBricksOf, AreCardsOf, AreTablesOf}
use Rattle.clr_generations.proofs.AllBricks.{bricks-apart, number-in, number-of}
use Rattle.clr_generations.proofs.Alike.{AreAlike, entered_alike}
use Rattle.clr_generations.proofs.BarrierLaw.{generation-most}
use Rattle.clr_generations.proofs.HeapHomes.{heap_homes}
use Rattle.clr_generations.proofs.Homes.{HaveHomes, old-away, old-before, old-may_lead}
use Rattle.clr_generations.proofs.NewSegments.{object_under, opening_entered}
use Rattle.clr_sweep.proofs.SurvivorsSwept.{seen}
use Rattle.clr_sweep.proofs.YoungPart.{young-high, young-low}
use Rattle.clr_sweep.proofs.YoungTables.{young_border}
use Rattle.clr_sweep.proofs.YoungWhole.{as-seen}
use Rattle.clr_generations.proofs.KeptItems.{kept_objects}
use Rattle.clr_collect.proofs.SealedHeaps.{all_aged, new_segment, old_segment, one_more, sealed_kept, stays, walk_stays}

-- what entries tell of a segment they tell of it where it is sealed
sealed_entered : (rows : List TypeRow) (h : HeapView) (objects : List Object) (entry : ℕ → ℤ) (s : SegInfo)
    → AreEntered rows (frame h) objects entry s → AreEntered rows (frame h) objects entry (sealed_segment s)
sealed_entered rows h objects entry s e = record { named = e.named; starts = e.starts; reached = e.reached }

module _ (rows : List TypeRow) (h : HeapView) (heap : IsHeap h) (held : IsHeld rows h) (none : h.rests ≡ no_rests)
    (size : ℕ) (new_heap : IsHeap (with_ephemeral h size)) where
  abbrev new : HeapView
  new = with_ephemeral h size

  -- the objects are the same
  objects_same : objects_in rows new ≡ objects_in rows h
  objects_same = kept_objects rows h new heap held (sealed_kept rows h heap held none size new_heap)

  -- a place of an old segment lies below the top
  place_under : (j p : ℕ) → j < length h.segments → stands_in (segment_at h j) p ≡ true → p < h.top
  place_under j p l in_s =
      let high = (stands-between (segment_at h j) p in_s).1 in
      let end = below_top_at h j heap l in
      omega arith

  -- and is of generation 2
  old-aged : (j p : ℕ) → j < length h.segments → stands_in (segment_at h j) p ≡ true → 0 < generation (frame new) p
  old-aged j p l in_s =
      let age = all_aged rows h heap held none size p (place_under j p l in_s) in
      omega arith

  -- ---- the bricks of the segment that was ephemeral

  module _ (k : ℕ) (inside : k < length h.segments) (eph : segment_at h k ≡ ephemeral (frame h)) where
    -- all that stands there is of generation 2
    pub sealed_aged : (place : ℕ) → stands_in (segment_at (with_ephemeral h size) k) place ≡ true
        → 0 < generation (frame (with_ephemeral h size)) place
    sealed_aged place in_s =
        old-aged k place inside
        (subst (λ (s : SegInfo). stands_in s place ≡ true) (old_segment rows h heap held none size k inside) in_s)

    -- they told of it before
    pub sealed_told : (bricks mid : List (CoverView ℤ)) → AreEntered rows (frame h) (objects_in rows h)
        (entry_at bricks) (segment_at h k) → ((i : ℕ) → entry_at mid i ≡ entry_at bricks i)
        → HaveTold rows (with_ephemeral h size) k h.start0 h.start0 (entry_at mid)
    sealed_told bricks mid law same =
        let all : entry_at bricks ≡ entry_at mid = λ i b. sym (same b) i in
        let E : (ℕ → ℤ) → Type 0 = λ e. AreEntered rows (frame h) (objects_in rows h) e (segment_at h k) in
        let s = sealed_segment (segment_at h k) in
        let O : List Object → Type 0 = λ os. AreEntered rows (frame h) os (entry_at mid) s in
        record {
          before = frame h;
          start0 = refl;
          old = λ place in_s low. old-before (frame h) place low;
          law = subst (AreEntered rows (frame h) (objects_in rows new) (entry_at mid))
              (sym (old_segment rows h heap held none size k inside))
              (subst O (sym objects_same)
              (sealed_entered rows h (objects_in rows h) (entry_at mid) (segment_at h k) (subst E all law)));
        }

    module _ (laid : (m : Machine) × IsMemoryOf rows h m × IsLaid m) where
      -- the machine whose memory the heap is, as the sweep sees it
      was-laid : IsLaid (seen rows h laid.0)
      was-laid = as-seen rows h heap held none laid 0 (omega arith)

      -- generation 0 began in the segment
      pub sealed_low : first_of (with_ephemeral h size) k ≤ h.start0
      sealed_low =
          let first = (stays rows h heap held none size k inside).first in
          let low = young-low rows h laid.0 heap held none was-laid 0 (omega arith) k inside eph in
          omega arith

      -- or at its end
      pub sealed_high : h.start0 ≤ last_of (with_ephemeral h size) k
      sealed_high =
          let last = (stays rows h heap held none size k inside).last in
          let high = young-high rows h laid.0 heap held none was-laid 0 (omega arith) k inside eph in
          omega arith

      -- and no item reaches over where it did
      pub sealed_border : HasBorder rows (with_ephemeral h size) k h.start0
      sealed_border low high =
          let same = stays rows h heap held none size k inside in
          let first = same.first in
          let last = same.last in
          let border = young_border rows h heap held none laid k inside (omega arith) (omega arith) in
          let W : ℕ → ℕ → Type 0 = λ p e. CanWalk (sight rows new k) new.memories p e in
          record {
            below = subst (λ (p : ℕ). W p h.start0) (sym first)
                (walk_stays rows h new k k (first_of h k) h.start0 same (omega arith) (omega arith) border.below);
            above = subst (λ (e : ℕ). W h.start0 e) (sym last)
                (walk_stays rows h new k k h.start0 (last_of h k) same (omega arith) (omega arith) border.above);
          }

    -- ---- all tables

    module _ (cards : List (CoverView ℕ)) (bricks : List (CoverView ℤ)) (t : AreTablesOf rows h cards bricks)
        (cards' : List (CoverView ℕ)) (mid bricks' : List (CoverView ℤ))
        (entries : (i : ℕ) → entry_at mid i ≡ entry_at bricks i)
        (others : (b : ℕ) → (IsBrickOf (segment_at (with_ephemeral h size) k) b → ⊥)
        → entry_at bricks' b ≡ entry_at mid b) where
      -- bricks of other segments are as they were
      other-brick : (b : ℕ) → (IsBrickOf (segment_at h k) b → ⊥) → entry_at bricks' b ≡ entry_at bricks b
      other-brick b out =
          others b (λ of. out (subst (λ (s : SegInfo). IsBrickOf s b) (old_segment rows h heap held none size k inside)
          of)) ∙ entries b

      -- what stands in another old segment isn't in the ephemeral one
      other-away : (j p : ℕ) → j < length h.segments → j ≢ k → stands_in (segment_at h j) p ≡ true
          → stands_in (ephemeral (frame h)) p ≡ false
      other-away j p l ne in_s = elim (cases_Bool (stands_in (ephemeral (frame h)) p)) [
        | inr away ↦ away
        | inl there ↦
            let in_k = subst (λ (s : SegInfo). stands_in s p ≡ true) (sym eph) there in
            let at_j = stands-between (segment_at h j) p in_s in
            let at_k = stands-between (segment_at h k) p in_k in
            let low_j = at_j.0 in
            let high_j = at_j.1 in
            let low_k = at_k.0 in
            let high_k = at_k.1 in
            elim (outside_other h j k p heap l inside ne (omega arith) high_j) [
              | inl under ↦ absurd (omega arith)
              | inr over ↦ absurd (omega arith)
            ]
      ]

      -- its objects are as they were, and may be named
      other-alike : (j : ℕ) → j < length h.segments → j ≢ k → AreAlike rows (frame h) (frame new) (objects_in rows h)
          (objects_in rows new) (segment_at h j) (reserved_end (segment_at h j))
      other-alike j l ne = record {
        there = λ o i in_s below. (o, subst (IsIn o) (sym objects_same) i, refl);
        back = λ q i in_s below. (q, subst (IsIn q) objects_same i, refl, refl);
        leads = λ p in_s below.
            old-may_lead (frame new) p (old-aged j p l in_s)
            ∙ sym (old-may_lead (frame h) p (old-away (frame h) p (other-away j p l ne in_s)));
        old = λ p in_s below aged. old-away (frame h) p (other-away j p l ne in_s);
      }

      -- and its bricks tell of them
      other-law : (j : ℕ) → j < length h.segments → j ≢ k
          → AreEntered rows (frame new) (objects_in rows new) (entry_at bricks') (segment_at new j)
      other-law j l ne =
          let s = segment_at h j in
          let homes = heap_homes rows h heap held j l in
          let e = entered_alike rows (frame h) (frame new) (objects_in rows h) (objects_in rows new) s
          (entry_at bricks) (entry_at bricks') homes
          (subst (λ (os : List Object). HaveHomes rows os s) (sym objects_same) homes) (other-alike j l ne)
          (λ b of. other-brick b (λ of_k. bricks-apart h j k b heap l inside ne of of_k))
          (t.brick_law s (number-in h.segments j l)) in
          subst (AreEntered rows (frame new) (objects_in rows new) (entry_at bricks'))
          (sym (old_segment rows h heap held none size j l))
          (sealed_entered rows new (objects_in rows new) (entry_at bricks') s e)

      -- ---- the new segment

      -- an object ends below the top
      object-under : (o : Object) → IsIn o (objects_in rows new)
          → (o.place + object_size rows o ≤ h.top) × (24 ≤ object_size rows o)
      object-under o i = object_under rows h heap held o (subst (IsIn o) objects_same i)

      -- what the new bricks tell: nothing
      new-law : AreEntered rows (frame new) (objects_in rows new) (entry_at bricks')
          (opening_segment h.top Ephemeral size)
      new-law =
          let end = below_top_at h k heap inside in
          subst (λ (os : List Object). AreEntered rows (frame new) os (entry_at bricks')
          (opening_segment h.top Ephemeral size)) (sym objects_same)
          (opening_entered rows h heap held (frame new) bricks (entry_at bricks') Ephemeral size t.bricks
          (λ b above. other-brick b (λ of. let last = of.1 in omega arith)))

      -- ---- cards

      -- no object is younger than another one
      card-law : (is_set : ℕ → Bool) (a : ℕ) → NamesYounger rows (frame new) (objects_in rows new) a
          → is_set (a / 2048) ≡ true
      card-law is_set a n =
          let under = object-under n.target n.target_present in
          let end = under.0 in
          let least = under.1 in
          let old = all_aged rows h heap held none size n.target.place (omega arith) in
          let most = generation-most (frame new) n.object.place in
          let younger = n.younger in
          absurd (omega arith)

      -- THE TABLES of the sealed heap
      pub sealed_tables : AreCardsOf (frame (with_ephemeral h size)) cards'
          → AreBricksOf (frame (with_ephemeral h size)) bricks'
          → AreEntered rows (frame (with_ephemeral h size)) (objects_in rows (with_ephemeral h size)) (entry_at bricks')
          (segment_at (with_ephemeral h size) k)
          → AreTablesOf rows (with_ephemeral h size) cards' bricks'
      sealed_tables own_cards own_bricks renewed = record {
        cards = own_cards;
        bricks = own_bricks;
        card_law = card-law (is_card_set cards');
        brick_law = λ s i.
            (let found = number-of new.segments s i in
            let j = found.0 in
            let count = one_more rows h heap held none size in
            let l = found.1 in
            let L : SegInfo → Type 0 = AreEntered rows (frame new) (objects_in rows new) (entry_at bricks') in
            subst L found.2 (elim (cases_eq j k) [
              | inl same ↦ subst (λ (n : ℕ). L (segment_at new n)) (sym same) renewed
              | inr ne ↦ elim (cases_lt j (length h.segments)) [
                | inl old ↦ other-law j old ne
                | inr last ↦
                    let at : length h.segments ≡ j = omega arith in
                    subst (λ (n : ℕ). L (segment_at new n)) at
                    (subst L (sym (new_segment rows h heap held none size)) new-law)
              ]
            ]));
      }
