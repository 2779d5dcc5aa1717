-- The bricks after a sweep of each segment's items.
use Rattle.std.proofs.Common.{◌≡◌, ℕ, ◌<◌, true, Bool, length, refl, sym, subst, arith, List, ℤ}
use Rattle.clr_types.specs.Rising.{IsIn}
use Rattle.clr_types.specs.Segments.{Layout, stands_in}
use Rattle.clr_types.specs.Types.{TypeRow}
use Rattle.clr_types.specs.declared.segment.SegInfo.{SegInfo}
use Rattle.clr_types.proofs.ChangedLists.{into_filter}
use Rattle.clr_types.proofs.SegmentFacts.{stands-between}
use Rattle.clr_generations.specs.Laws.{AreEntered, BrickLaw}
use Rattle.clr_generations.specs.Renewing.{AreLeft, left_in}
use Rattle.clr_generations.proofs.AllBricks.{number-of}
use Rattle.clr_generations.proofs.Collected.{all-old, ended_entered}
use Rattle.clr_generations.proofs.Homes.{old-may_lead}
use Rattle.clr_heap.specs.View.{first_of, frame, HeapView, IsHeap, no_rests, segment_at}
use Rattle.clr_model.specs.Machine.{Object}
use Rattle.clr_view.specs.Memory.{is_marked}
use Rattle.clr_view.specs.View.{IsHeld, objects_in}
use Rattle.clr_sweep.specs.SweptItems.{HasSweptItems, swept_last}
use Rattle.clr_sweep.proofs.ObjectsSwept.{swept_held, swept_objects}

module _ (rows : List TypeRow) (old new : HeapView) (swept : HasSweptItems rows old new) (heap : IsHeap old)
    (held : IsHeld rows old) (none : old.rests ≡ no_rests) (heap' : IsHeap new) where
  objects-left : objects_in rows new ≡ left_in rows old (is_marked old)
  objects-left = swept_objects rows old new swept heap held

  -- the marked objects of each segment are left
  whole-left : (k : ℕ) → AreLeft rows old k (first_of old k) (frame new) (is_marked old)
  whole-left k = record {
    below = λ o l in_s below. absurd (not-below o.place in_s below);
    above = λ o l in_s above. refl;
    old = λ p in_s below. absurd (not-below p in_s below);
    may = λ o l in_s keep. old-may_lead (frame new) o.place
        (all-old rows new heap' (swept_held rows old new swept heap held none) swept.start0 o
        (subst (IsIn o) (sym objects-left) (into_filter (is_marked old) (objects_in rows old) keep l)));
  }
    where
      not-below : (p : ℕ) → stands_in (segment_at old k) p ≡ true → p < first_of old k → ⊥
      not-below p in_s below = let low = (stands-between (segment_at old k) p in_s).0 in omega arith

  -- THE LAW OF BRICKS holds where each segment's tell of the marked objects
  pub law_from : (entry : ℕ → ℤ)
      → ((k : ℕ) → k < length old.segments
      → AreEntered rows (frame new) (left_in rows old (is_marked old)) entry (segment_at old k))
      → BrickLaw rows (frame new) (objects_in rows new) entry
  law_from entry entered s l =
      let found = number-of new.segments s l in
      let k = found.0 in
      let count = swept.count in
      let inside : k < length old.segments = let n = found.1 in omega arith in
      subst (AreEntered rows (frame new) (objects_in rows new) entry) found.2
      (subst (λ (t : SegInfo). AreEntered rows (frame new) (objects_in rows new) entry t)
      (sym (swept.segments k inside))
      (ended_entered rows (frame new) (objects_in rows new) entry (segment_at old k) (swept_last rows old k)
      (subst (λ (os : List Object). AreEntered rows (frame new) os entry (segment_at old k)) (sym objects-left)
      (entered k inside))))

  -- so it does where they were renewed before
  pub whole-law : (entry : ℕ → ℤ)
      → ((k : ℕ) (layout : Layout) (keep : Object → Bool) → k < length old.segments
      → AreLeft rows old k (first_of old k) layout keep
      → AreEntered rows layout (left_in rows old keep) entry (segment_at old k))
      → BrickLaw rows (frame new) (objects_in rows new) entry
  whole-law entry renewed =
      law_from entry (λ k inside. renewed k (frame new) (is_marked old) inside (whole-left k))
