-- The bricks after a sweep of the young part of the ephemeral segment.
use Rattle.std.proofs.Common.{◌≡◌, ◌≢◌, inl, inr, ℕ, ◌<◌, ◌≤◌, Bool, true, false, not, ◌||◌, List}
use Rattle.std.proofs.Common.{filter, length, refl, ap, sym, ◌∙◌, subst, arith, ℤ}
use Rattle.std.proofs.lemmas.Bool.{cases_eq, cases_order}
use Rattle.clr_types.specs.Rising.{IsIn}
use Rattle.clr_types.specs.Segments.{empty_segment, ended_at, ephemeral, generation, reserved_end, same_kind}
use Rattle.clr_types.specs.Segments.{segments_of, stands_in}
use Rattle.clr_types.specs.Types.{TypeRow}
use Rattle.clr_types.specs.declared.segment.SegInfo.{SegInfo}
use Rattle.clr_types.specs.declared.segment.SegKind.TheVariants.{Ephemeral}
use Rattle.clr_types.proofs.ChangedLists.{into_filter}
use Rattle.clr_types.proofs.RisingLists.{in_cons}
use Rattle.clr_types.proofs.SegmentFacts.{one_alone}
use Rattle.clr_bricks.specs.Bricks.{entry_at}
use Rattle.clr_covers.specs.Covers.{CoverView}
use Rattle.clr_generations.specs.Laws.{AreEntered, BrickLaw, IsBrickOf}
use Rattle.clr_generations.specs.Renewing.{AreLeft, left_in}
use Rattle.clr_generations.proofs.Alike.{AreAlike}
use Rattle.clr_generations.proofs.AllBricks.{bricks-apart, number-of}
use Rattle.clr_generations.proofs.Collected.{alike-left, all-old, ended_entered, kept_elsewhere}
use Rattle.clr_generations.proofs.Homes.{old-away, old-before, old-may_lead}
use Rattle.clr_heap.specs.View.{first_of, frame, HeapView, IsHeap, no_rests, segment_at, word_of}
use Rattle.clr_heap.proofs.Framing.{lawful_at}
use Rattle.clr_heap.proofs.Staying.{segment_order}
use Rattle.clr_model.specs.Lawful.{IsLaid}
use Rattle.clr_model.specs.Machine.{Machine, Object}
use Rattle.clr_view.specs.Memory.{is_left, is_marked}
use Rattle.clr_view.specs.View.{IsHeld, objects_in}
use Rattle.clr_sweep.specs.SweptItems.{aged, items_from, part_last, stays, young_start}
use Rattle.clr_sweep.specs.SweptSegments.{HasSweptSegment}
use Rattle.clr_sweep.proofs.Agreeing.{last_end_ge}
use Rattle.clr_sweep.proofs.OtherSegments.{apart_places}
use Rattle.clr_sweep.proofs.SurvivorsSwept.{at-in, seen}
use Rattle.clr_sweep.proofs.YoungPart.{from-is, old-below, old-elsewhere, swept-off, swept-on, young-in, young-kind}
use Rattle.clr_sweep.proofs.YoungPart.{young-low}
use Rattle.clr_sweep.proofs.YoungSwept.{young-count, young-held, young-objects, young-other, young-this}

-- a segment of a heap that is ephemeral is the one
one-ephemeral : (h : HeapView) (k : ℕ) → IsHeap h → k < length h.segments
    → same_kind Ephemeral (segment_at h k).kind ≡ true → segment_at h k ≡ ephemeral (frame h)
one-ephemeral h k heap inside kind =
    let one = one_alone (segments_of Ephemeral (frame h)) heap.one_ephemeral in
    let here = into_filter (λ (s : SegInfo). same_kind Ephemeral s.kind) h.segments kind
    (at-in h.segments k empty_segment inside) in
    elim (in_cons (subst (IsIn (segment_at h k)) one here)) [ inl same ↦ same | inr more ↦ elim more [ ] ]

-- a segment has one number
pub one-number : (h : HeapView) (j k : ℕ) → IsHeap h → j < length h.segments → k < length h.segments
    → segment_at h j ≡ segment_at h k → j ≡ k
one-number h j k heap in_j in_k same =
    let least = (lawful_at h j heap in_j).least in
    let base = ap (λ (s : SegInfo). s.base) same in
    let size = ap (λ (s : SegInfo). s.reserved) same in
    elim (cases_order j k) [
      | inl at ↦ at
      | inr (inl less) ↦ let order = segment_order h j k heap less in_k in absurd (omega arith)
      | inr (inr more) ↦ let order = segment_order h k j heap more in_j in absurd (omega arith)
    ]

module _ (rows : List TypeRow) (old : HeapView) (base : Machine) (heap : IsHeap old) (held : IsHeld rows old)
    (none : old.rests ≡ no_rests) (laid : IsLaid (seen rows old base)) (g : ℕ) (young : g ≤ 1) (k : ℕ)
    (inside : k < length old.segments) (eph : segment_at old k ≡ ephemeral (frame old)) (now : HeapView)
    (w : HasSweptSegment rows old now k (young_start old g)) (new_heap : IsHeap (aged now g)) where
  abbrev new : HeapView
  new = aged now g

  abbrev from : ℕ
  from = young_start old g

  abbrev last : ℕ
  last = part_last rows old k (young_start old g)

  this : segment_at new k ≡ ended_at last (segment_at old k)
  this = young-this rows old base heap held none laid g young k inside eph now w

  other : (j : ℕ) → j ≢ k → segment_at new j ≡ segment_at old j
  other j ne = young-other rows old base heap held none laid g young k inside eph now w j ne

  count : length new.segments ≡ length old.segments
  count = young-count rows old base heap held none laid g young k inside eph now w

  inside' : k < length new.segments
  inside' = let c = count in omega arith

  new-held : IsHeld rows (aged now g)
  new-held = young-held rows old base heap held none laid g young k inside eph now w

  low : first_of old k ≤ from
  low = young-low rows old base heap held none laid g young k inside eph

  -- the part doesn't begin above the new end
  last-above : from ≤ last
  last-above = last_end_ge (stays (word_of old)) from from (items_from rows old k from) (omega arith)
      (λ i l. (from-is rows old base heap held none laid g young k inside eph i l).above)

  -- ---- objects and generations

  left-off : (o : Object) → g < generation (frame old) o.place → is_left old g o ≡ true
  left-off o older =
      ap (λ (b : Bool). not b || is_marked old o)
      (swept-off rows old base heap held none laid g young k inside eph o.place older)

  young-is : ephemeral (frame new) ≡ ended_at last (segment_at old k)
  young-is =
      sym (one-ephemeral new k new_heap inside' (ap (λ (s : SegInfo). same_kind Ephemeral s.kind) this
      ∙ young-kind rows old base heap held none laid g young k inside eph)) ∙ this

  tail-above : from ≤ new.start0
  tail-above = let end = ap (λ (s : SegInfo). s.end) young-is in let up = last-above in omega arith

  objects-left : objects_in rows new ≡ filter (is_left old g) (objects_in rows old)
  objects-left = young-objects rows old base heap held none laid g young k inside eph now w

  -- THE PART keeps what it should
  pub part-left : AreLeft rows old k (young_start old g) (frame (aged now g)) (is_left old g)
  part-left = record {
    below = λ o l in_s below. left-off o
        (old-below rows old base heap held none laid g young k inside eph o.place in_s below);
    above = λ o l in_s above. ap (λ (b : Bool). not b || is_marked old o)
        (swept-on rows old base heap held none laid g young k inside eph o.place
        (young-in rows old base heap held none laid g young k inside eph o.place in_s above));
    old = λ p in_s below. (let tail = tail-above in old-before (frame new) p (omega arith));
    may = λ o l in_s keep. old-may_lead (frame new) o.place
        (all-old rows new new_heap new-held refl o
        (subst (IsIn o) (sym objects-left) (into_filter (is_left old g) (objects_in rows old) keep l)));
  }

  -- a place of another segment doesn't stand in the ephemeral one
  away : (j p : ℕ) → j < length old.segments → j ≢ k → stands_in (segment_at old j) p ≡ true
      → stands_in (segment_at old k) p ≡ false
  away j p in_j ne in_s = apart_places old j k p heap in_j inside ne in_s

  alike-other : (j : ℕ) → j < length old.segments → j ≢ k
      → AreAlike rows (frame old) (frame new) (objects_in rows old) (objects_in rows new) (segment_at old j)
      (reserved_end (segment_at old j))
  alike-other j in_j ne =
      let older : (p : ℕ) → stands_in (segment_at old j) p ≡ true → g < generation (frame old) p =
      λ p in_s. old-elsewhere rows old base heap held none laid g young k inside eph p (away j p in_j ne in_s) in
      alike-left rows (frame old) (frame new) (objects_in rows old) (objects_in rows new) (segment_at old j)
      (reserved_end (segment_at old j)) (is_left old g) objects-left
      (λ o l in_s below. left-off o (older o.place in_s))
      (λ p in_s below. (let age = older p in_s in (
        omega arith,
        old-away (frame new) p (ap (λ (s : SegInfo). stands_in s p) young-is ∙ away j p in_j ne in_s),
      )))

  -- ---- the bricks

  module _ (bricks after : List (CoverView ℤ))
      (law : BrickLaw rows (frame old) (objects_in rows old) (entry_at bricks))
      (here : AreEntered rows (frame (aged now g)) (left_in rows old (is_left old g)) (entry_at after)
      (segment_at old k))
      (others : (b : ℕ) → (IsBrickOf (segment_at old k) b → ⊥) → entry_at after b ≡ entry_at bricks b) where
    part-again : AreEntered rows (frame new) (objects_in rows new) (entry_at after) (segment_at new k)
    part-again =
        subst (λ (t : SegInfo). AreEntered rows (frame new) (objects_in rows new) (entry_at after) t) (sym this)
        (ended_entered rows (frame new) (objects_in rows new) (entry_at after) (segment_at old k) last
        (subst (λ (os : List Object). AreEntered rows (frame new) os (entry_at after) (segment_at old k))
        (sym objects-left) here))

    -- THE LAW OF BRICKS holds after the sweep where the part's were renewed before it
    pub law-again : BrickLaw rows (frame (aged now g)) (objects_in rows (aged now g)) (entry_at after)
    law-again s l =
        let found = number-of new.segments s l in
        let c = count in
        let in_j : found.0 < length old.segments = let n = found.1 in omega arith in
        subst (AreEntered rows (frame new) (objects_in rows new) (entry_at after)) found.2
        (elim (cases_eq found.0 k) [
          | inl at ↦
              subst (λ (j : ℕ). AreEntered rows (frame new) (objects_in rows new) (entry_at after) (segment_at new j))
              (sym at) part-again
          | inr ne ↦
              kept_elsewhere rows old new heap held new_heap new-held found.0 (entry_at bricks) (entry_at after) in_j
              found.1 (other found.0 ne) (alike-other found.0 in_j ne)
              (λ b of. others b (bricks-apart old found.0 k b heap in_j inside ne of))
              (law (segment_at old found.0) (at-in old.segments found.0 empty_segment in_j))
        ])
