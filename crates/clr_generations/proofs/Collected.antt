-- What is left of the bricks of a heap in which ends moved and objects went.
use Rattle.std.proofs.Common.{◌≡◌, inl, inr, ℕ, ◌<◌, Bool, true, List, length, filter, refl, ap, sym, ◌∙◌, subst}
use Rattle.std.proofs.Common.{arith, ℤ}
use Rattle.std.proofs.lemmas.Bool.{cases_Bool}
use Rattle.clr_types.specs.Rising.{IsIn}
use Rattle.clr_types.specs.Segments.{ended_at, ephemeral, generation, Layout, reserved_end, stands_in}
use Rattle.clr_types.specs.Types.{TypeRow}
use Rattle.clr_types.specs.declared.segment.SegInfo.{SegInfo}
use Rattle.clr_types.proofs.ChangedLists.{into_filter, out_of_filter}
use Rattle.clr_heap.specs.View.{frame, HeapView, IsHeap, segment_at}
use Rattle.clr_heap.proofs.Young.{young_number}
use Rattle.clr_model.specs.Machine.{Object}
use Rattle.clr_view.specs.View.{IsHeld, objects_in, tail_of}
use Rattle.clr_generations.specs.Laws.{AreEntered, IsBrickOf}
use Rattle.clr_generations.proofs.Alike.{AreAlike, entered_alike}
use Rattle.clr_generations.proofs.HeapHomes.{heap_homes}
use Rattle.clr_generations.proofs.Homes.{HaveHomes, old-away, old-before, old-may_lead}

-- what is of generation 1 or 2 before and after, and isn't among the objects that went, is alike
pub alike-left : (rows : List TypeRow) (layout new : Layout) (objects others : List Object) (s : SegInfo) (from : ℕ)
    (left : Object → Bool) → others ≡ filter left objects
    → ((o : Object) → IsIn o objects → stands_in s o.place ≡ true → o.place < from → left o ≡ true)
    → ((place : ℕ) → stands_in s place ≡ true → place < from
    → (0 < generation layout place) × (0 < generation new place))
    → AreAlike rows layout new objects others s from
alike-left rows layout new objects others s from left is stays old = record {
  there = λ o l in_s below. (
    o,
    subst (IsIn o) (sym is) (into_filter left objects (stays o l in_s below) l),
    refl,
  );
  back = λ q l in_s below. (q, (out_of_filter left q objects (subst (IsIn q) is l)).1, refl, refl);
  leads = λ place in_s below.
      (let ages = old place in_s below in
      old-may_lead new place ages.1 ∙ sym (old-may_lead layout place ages.0));
  old = λ place in_s below aged. (old place in_s below).0;
}

module _ (rows : List TypeRow) (old new : HeapView) (heap : IsHeap old) (held : IsHeld rows old)
    (heap' : IsHeap new) (held' : IsHeld rows new) where
  -- a segment that stays as it was, with its objects and the entries of its bricks
  pub kept_elsewhere : (j : ℕ) (entry now : ℕ → ℤ) → j < length old.segments → j < length new.segments
      → segment_at new j ≡ segment_at old j
      → AreAlike rows (frame old) (frame new) (objects_in rows old) (objects_in rows new) (segment_at old j)
      (reserved_end (segment_at old j)) → ((b : ℕ) → IsBrickOf (segment_at old j) b → now b ≡ entry b)
      → AreEntered rows (frame old) (objects_in rows old) entry (segment_at old j)
      → AreEntered rows (frame new) (objects_in rows new) now (segment_at new j)
  kept_elsewhere j entry now inside inside' this alike same law =
      subst (AreEntered rows (frame new) (objects_in rows new) now) (sym this)
      (entered_alike rows (frame old) (frame new) (objects_in rows old) (objects_in rows new) (segment_at old j) entry
      now (heap_homes rows old heap held j inside)
      (subst (HaveHomes rows (objects_in rows new)) this (heap_homes rows new heap' held' j inside')) alike same law)

-- what bricks say doesn't depend on where the segment ends
pub ended_entered : (rows : List TypeRow) (layout : Layout) (objects : List Object) (entry : ℕ → ℤ) (s : SegInfo)
    (end : ℕ) → AreEntered rows layout objects entry s → AreEntered rows layout objects entry (ended_at end s)
ended_entered rows layout objects entry s end e = record { named = e.named; starts = e.starts; reached = e.reached }

-- where generation 0 begins at the end of the ephemeral segment, no object is of that generation
pub all-old : (rows : List TypeRow) (h : HeapView) → IsHeap h → IsHeld rows h → h.start0 ≡ tail_of h → (o : Object)
    → IsIn o (objects_in rows h) → 0 < generation (frame h) o.place
all-old rows h heap held none o l =
    let one = heap.one_ephemeral in
    let found = young_number h.segments (omega arith) in
    let eph : segment_at h found.0 ≡ ephemeral (frame h) = found.2 in
    let homes = heap_homes rows h heap held found.0 found.1 in
    let end = ap (λ (s : SegInfo). s.end) eph in
    elim (cases_Bool (stands_in (ephemeral (frame h)) o.place)) [
      | inl inside ↦
          let in_s = ap (λ (s : SegInfo). stands_in s o.place) eph ∙ inside in
          let within = homes.within o l in_s in
          let least = homes.least o l in
          old-before (frame h) o.place (omega arith)
      | inr away ↦ old-away (frame h) o.place away
    ]
