-- A sweep of the large segments as the code meets it: what it leaves of the heap, and the law of bricks.
use Rattle.std.proofs.Common.{◌≡◌, ℕ, ◌*◌, ◌/◌, ◌<◌, Bool, true, false, not, ◌||◌, List, filter, length}
use Rattle.std.proofs.Common.{if◌then◌else◌, nat_le, nat_lt, refl, ap, sym, ◌∙◌, subst, arith, ℤ}
use Rattle.std.proofs.lemmas.Bool.{both_ways}
use Rattle.clr_types.specs.Rising.{first, IsIn}
use Rattle.clr_types.specs.Segments.{ephemeral, generation, reserved_end, same_kind, segments_of, stands_in}
use Rattle.clr_types.specs.Types.{TypeRow}
use Rattle.clr_types.specs.declared.segment.SegInfo.{SegInfo}
use Rattle.clr_types.specs.declared.segment.SegKind.TheVariants.{Ephemeral}
use Rattle.clr_types.proofs.ChangedLists.{into_filter, out_of_filter}
use Rattle.clr_types.proofs.SegmentFacts.{one_alone, stands-between}
use Rattle.clr_bricks.specs.Bricks.{entry_at}
use Rattle.clr_covers.specs.Covers.{CoverView}
use Rattle.clr_generations.specs.Laws.{AreEntered, BrickLaw}
use Rattle.clr_generations.specs.Renewing.{AreLeft}
use Rattle.clr_generations.proofs.Alike.{AreAlike}
use Rattle.clr_generations.proofs.AllBricks.{number-in, number-of}
use Rattle.clr_generations.proofs.Collected.{ended_entered, kept_elsewhere}
use Rattle.clr_generations.proofs.Homes.{old-away, old-may_lead}
use Rattle.clr_heap.specs.View.{first_of, frame, HeapView, IsHeap, no_rests, segment_at, word_of}
use Rattle.clr_heap.proofs.Young.{young_number}
use Rattle.clr_model.specs.Machine.{Object}
use Rattle.clr_model.proofs.CollectedLayout.{large-not_ephemeral}
use Rattle.clr_view.specs.Memory.{is_marked}
use Rattle.clr_view.specs.View.{IsHeld, objects_among, objects_in}
use Rattle.clr_view.proofs.Listings.{listings-agree}
use Rattle.clr_sweep.specs.SweptItems.{swept_last}
use Rattle.clr_sweep.specs.SweptLarge.{AreLargeRenewed, HasSweptLarge, HaveLargeBricks, is_large, is_large_place}
use Rattle.clr_sweep.specs.SweptSegments.{AreSwept}
use Rattle.clr_sweep.proofs.LargeLayout.{large-layout}
use Rattle.clr_sweep.proofs.LargeSwept.{bounded_as, held_low, large-cells, large-ephemeral, large-heads, large-held}
use Rattle.clr_sweep.proofs.LargeSwept.{large-limit, large-marks, large-objects, large-rests, lowered, one_segment}
use Rattle.clr_sweep.proofs.LargeSwept.{place_large}

-- what stands in a large segment doesn't stand in the ephemeral one
large-away : (h : HeapView) (j p : ℕ) → IsHeap h → j < length h.segments → is_large h j ≡ true
    → stands_in (segment_at h j) p ≡ true → stands_in (ephemeral (frame h)) p ≡ false
large-away h j p heap l on stands = go (stands_in (ephemeral (frame h)) p) refl
  where
    kind : same_kind Ephemeral (ephemeral (frame h)).kind ≡ true
    kind = (out_of_filter (λ (s : SegInfo). same_kind Ephemeral s.kind) (ephemeral (frame h)) h.segments
        (subst (IsIn (ephemeral (frame h))) (sym (one_alone (segments_of Ephemeral (frame h)) heap.one_ephemeral))
        first)).0

    go : (b : Bool) → stands_in (ephemeral (frame h)) p ≡ b → stands_in (ephemeral (frame h)) p ≡ false
    go false e = e
    go true e =
        let one = heap.one_ephemeral in
        let (k, in_k, at) = young_number h.segments (omega arith) in
        let there = subst (λ (s : SegInfo). stands_in s p ≡ true) (sym at) e in
        let same = one_segment h heap j k p l in_k stands there in
        let young = subst (λ (s : SegInfo). same_kind Ephemeral s.kind ≡ true) (sym at) kind in
        let here = subst (λ (n : ℕ). same_kind Ephemeral (segment_at h n).kind ≡ true) (sym same) young in
        absurd (both_ways (same_kind Ephemeral (segment_at h j).kind) (large-not_ephemeral (segment_at h j).kind on)
        here)

module _ (rows : List TypeRow) (old : HeapView) (heap : IsHeap old) (held : IsHeld rows old)
    (none : old.rests ≡ no_rests) (heap_low : IsHeap (lowered old)) where
  low-objects : objects_in rows (lowered old) ≡ objects_in rows old
  low-objects = ap (objects_among rows (word_of old))
      (listings-agree rows rows old (lowered old) 0 (length old.segments) (λ j low high. refl))

  -- THE BRICKS of the large segments say the same wherever generations begin
  pub low-bricks : (bricks : List (CoverView ℤ)) → BrickLaw rows (frame old) (objects_in rows old) (entry_at bricks)
      → HaveLargeBricks rows (lowered old) bricks
  low-bricks bricks law j l on =
      let away : (p : ℕ) → stands_in (segment_at old j) p ≡ true → stands_in (ephemeral (frame old)) p ≡ false =
      λ p in_s. large-away old j p heap l on in_s in
      let alike : AreAlike rows (frame old) (frame (lowered old)) (objects_in rows old) (objects_in rows old)
      (segment_at old j) (reserved_end (segment_at old j)) = record {
        there = λ o i in_s below. (o, i, refl);
        back = λ q i in_s below. (q, i, refl, refl);
        leads = λ p in_s below. old-may_lead (frame (lowered old)) p (old-away (frame (lowered old)) p (away p in_s))
            ∙ sym (old-may_lead (frame old) p (old-away (frame old) p (away p in_s)));
        old = λ p in_s below aged. old-away (frame old) p (away p in_s);
      } in
      kept_elsewhere rows old (lowered old) heap held heap_low
      (held_low rows old held none) j (entry_at bricks) (entry_at bricks) l l refl
      (subst (λ (os : List Object). AreAlike rows (frame old) (frame (lowered old)) (objects_in rows old) os
      (segment_at old j) (reserved_end (segment_at old j))) (sym low-objects) alike)
      (λ b of. refl) (law (segment_at old j) (number-in old.segments j l))

  module _ (mid : HeapView) (a : AreSwept rows (lowered old) mid (is_large (lowered old)))
      (new_heap : IsHeap (bounded_as old mid)) where
    abbrev new : HeapView
    new = bounded_as old mid

    -- THE SWEEP of the large segments
    pub has_swept_large : HasSweptLarge rows old (bounded_as old mid)
    has_swept_large = record {
      objects = large-objects rows old mid heap held none heap_low a;
      layout = large-layout rows old mid heap held none heap_low a new_heap;
      cells = large-cells rows old mid heap held none heap_low a;
      marks = large-marks rows old mid heap held none heap_low a;
      free_heads = large-heads rows old mid heap held none heap_low a;
      limit = large-limit rows old mid heap held none heap_low a;
      rests = large-rests rows old mid heap held none heap_low a;
      heap = new_heap;
      held = large-held rows old mid heap held none heap_low a;
    }

    -- ---- the bricks

    abbrev keep : Object → Bool
    keep o = not (is_large_place old o.place) || is_marked old o

    abbrev objects-left : objects_in rows new ≡ filter keep (objects_in rows old)
    objects-left = large-objects rows old mid heap held none heap_low a

    young-same : ephemeral (frame new) ≡ ephemeral (frame old)
    young-same = large-ephemeral rows old mid heap held none heap_low a

    -- each large segment keeps what it should
    large-left : (j : ℕ) → j < length old.segments → is_large old j ≡ true
        → AreLeft rows (lowered old) j (first_of (lowered old) j) (frame new) keep
    large-left j l on = record {
      below = λ o i in_s below. absurd (not-below o.place in_s below);
      above = λ o i in_s above. ap (λ (b : Bool). not b || is_marked old o)
          (place_large old heap j o.place l in_s ∙ on);
      old = λ p in_s below. absurd (not-below p in_s below);
      may = λ o i in_s keep. old-may_lead (frame new) o.place (old-away (frame new) o.place
          (ap (λ (s : SegInfo). stands_in s o.place) young-same ∙ large-away old j o.place heap l on in_s));
    }
      where
        not-below : (p : ℕ) → stands_in (segment_at old j) p ≡ true → p < first_of old j → ⊥
        not-below p in_s below = let low = (stands-between (segment_at old j) p in_s).0 in omega arith

    same-age : (p : ℕ) → generation (frame new) p ≡ generation (frame old) p
    same-age p = ap (λ (s : SegInfo). if stands_in s p then (if nat_lt p old.start1 then 2
        else (if nat_lt p old.start0 then 1 else 0)) else 2) young-same

    -- and the others keep all
    other-alike : (j : ℕ) → j < length old.segments → is_large old j ≡ false
        → AreAlike rows (frame old) (frame new) (objects_in rows old) (objects_in rows new) (segment_at old j)
        (reserved_end (segment_at old j))
    other-alike j l off = record {
      there = λ o i in_s below. (
        o,
        subst (IsIn o) (sym objects-left) (into_filter keep (objects_in rows old)
            (ap (λ (b : Bool). not b || is_marked old o) (place_large old heap j o.place l in_s ∙ off)) i),
        refl,
      );
      back = λ q i in_s below. (
        q,
        (out_of_filter keep q (objects_in rows old) (subst (IsIn q) objects-left i)).1,
        refl,
        refl,
      );
      leads = λ p in_s below. ap (λ (n : ℕ). nat_lt 0 n || nat_le old.start0 (4096 * (p / 4096))) (same-age p);
      old = λ p in_s below aged. subst (λ (n : ℕ). 0 < n) (same-age p) aged;
    }

    -- THE LAW OF BRICKS holds where those of the large segments were renewed before
    pub large-law : (bricks after : List (CoverView ℤ))
        → BrickLaw rows (frame old) (objects_in rows old) (entry_at bricks)
        → AreLargeRenewed rows (lowered old) bricks after
        → BrickLaw rows (frame (bounded_as old mid)) (objects_in rows (bounded_as old mid)) (entry_at after)
    large-law bricks after law renewed s i =
        let (j, below, at) = number-of mid.segments s i in
        let count = a.count in
        let inside : j < length old.segments = omega arith in
        subst (AreEntered rows (frame new) (objects_in rows new) (entry_at after)) at
        (go j inside below (is_large old j) refl)
      where
        Entered : SegInfo → Type 0
        Entered t = AreEntered rows (frame new) (objects_in rows new) (entry_at after) t

        go : (j : ℕ) → j < length old.segments → j < length mid.segments → (b : Bool) → is_large old j ≡ b
            → Entered (segment_at mid j)
        go j l below true on =
            subst Entered (sym (a.done j l on).segment)
            (ended_entered rows (frame new) (objects_in rows new) (entry_at after) (segment_at old j)
            (swept_last rows old j)
            (subst (λ (os : List Object). AreEntered rows (frame new) os (entry_at after) (segment_at old j))
            (ap (filter keep) low-objects ∙ sym objects-left)
            (renewed.entered j (frame new) keep l on (large-left j l on))))
        go j l below false off =
            kept_elsewhere rows old new heap held new_heap (large-held rows old mid heap held none heap_low a) j
            (entry_at bricks) (entry_at after) l below (a.ahead j l off).segment (other-alike j l off)
            (λ b of. renewed.others j b l off of) (law (segment_at old j) (number-in old.segments j l))
