-- What the sweep of one segment leaves of the others.
use Rattle.std.proofs.Common.{◌≡◌, ◌≢◌, inl, inr, ℕ, ◌+◌, ◌%◌, ◌<◌, ◌≤◌, List, length, ap, ap₂, sym, ◌∙◌, subst, arith}
use Rattle.std.proofs.Common.{cond, Option, [], Bool, true, false, refl}
use Rattle.std.proofs.lemmas.List.{get_or-set_other}
use Rattle.clr_types.specs.Ranges.{Piece}
use Rattle.clr_types.specs.Segments.{empty_segment, ended_at, first_place, same_kind, stands_in}
use Rattle.clr_types.specs.Types.{TypeRow}
use Rattle.clr_types.specs.declared.segment.SegInfo.{SegInfo}
use Rattle.clr_types.specs.declared.segment.SegKind.TheVariants.{Ephemeral}
use Rattle.clr_types.proofs.RisingLists.{all_at}
use Rattle.clr_types.proofs.SegmentFacts.{stands-between}
use Rattle.clr_heap.specs.Parts.{hole_from, items_in}
use Rattle.clr_heap.specs.View.{AreWalkable, first_of, HeapView, IsHeap, last_of, listing, parts_of, segment_at, sight}
use Rattle.clr_heap.specs.View.{word_of}
use Rattle.clr_heap.proofs.Framing.{lawful_at}
use Rattle.clr_heap.proofs.Staying.{outside_other, parts_stay, StaysAs}
use Rattle.clr_heap.proofs.Storing.{length-shapes, memory_index-shapes}
use Rattle.clr_view.specs.View.{HaveFreeHeads, IsHeld}
use Rattle.clr_view.proofs.Items.{IsItem}
use Rattle.clr_view.proofs.Listings.{listing-are}
use Rattle.clr_sweep.specs.SweptItems.{part_last, stays, swept_last}
use Rattle.clr_sweep.specs.SweptSegments.{HasSweptSegment, IsAhead, IsSwept}
use Rattle.clr_sweep.proofs.Agreeing.{last_end_le}
use Rattle.clr_sweep.proofs.FreeHeads.{part_heads_stay}

-- a place of one segment doesn't stand in another
pub apart_places : (h : HeapView) (j k p : ℕ) → IsHeap h → j < length h.segments → k < length h.segments → j ≢ k
    → stands_in (segment_at h j) p ≡ true → stands_in (segment_at h k) p ≡ false
apart_places h j k p heap in_j in_k ne there = go (stands_in (segment_at h k) p) refl
  where
    go : (b : Bool) → stands_in (segment_at h k) p ≡ b → stands_in (segment_at h k) p ≡ false
    go false e = e
    go true e =
        let (low_j, high_j) = stands-between (segment_at h j) p there in
        let (low_k, high_k) = stands-between (segment_at h k) p e in
        elim (outside_other h j k p heap in_j in_k ne (omega arith) high_j) [
          | inl under ↦ absurd (omega arith)
          | inr over ↦ absurd (omega arith)
        ]

-- a sweep moves no end up
swept_last_le : (rows : List TypeRow) (h : HeapView) (j : ℕ) → IsHeap h → AreWalkable rows h → j < length h.segments
    → swept_last rows h j ≤ last_of h j
swept_last_le rows h j heap walkable l =
    last_end_le (stays (word_of h)) (first_of h j) (last_of h j) (listing rows h j) (lawful_at h j heap l).low
    (λ i m. (all_at (IsItem rows (first_of h j) (last_of h j)) m (listing-are rows h walkable j l)).below)

module _ (rows : List TypeRow) (old now new : HeapView) (k from : ℕ) (heap : IsHeap old) (held : IsHeld rows old)
    (inside : k < length old.segments) (here : segment_at now k ≡ segment_at old k) (start : first_of old k ≤ from)
    (w : HasSweptSegment rows now new k from) where
  pub other_segment : (j : ℕ) → j ≢ k → segment_at new j ≡ segment_at now j
  other_segment j ne = ap (λ (h : HeapView). segment_at h j) w.others
      ∙ get_or-set_other now.segments k j (ended_at (part_last rows now k from) (segment_at now k)) empty_segment ne

  -- the words of the cells of another segment
  other_word : (j b : ℕ) → j < length old.segments → j ≢ k → b % 8 ≡ 0 → first_of old j ≤ b + 8
      → b + 8 < last_of old j → word_of new b ≡ word_of now b
  other_word j b l ne z lo hi =
      let last = ap (λ (t : SegInfo). t.end) here in
      let high = (lawful_at old j heap l).high in
      let top = (lawful_at old k heap inside).high in
      w.outside b z (elim (outside_other old j k (b + 8) heap l inside ne (omega arith) (omega arith)) [
        | inl under ↦ inl (omega (arith, start, under))
        | inr over ↦ inr (omega (arith, last, top, over))
      ])

  -- one that was swept stays so
  pub still_swept : (j : ℕ) → j ≢ k → IsSwept rows old now j → j < length old.segments → IsSwept rows old new j
  still_swept j ne was l =
      let same = other_segment j ne in
      let first = ap first_place was.segment in
      let last = ap (λ (t : SegInfo). t.end) was.segment in
      let lower = swept_last_le rows old j heap held.walkable l in
      let there : StaysAs now j new j = record {
        first = ap first_place same;
        last = ap (λ (t : SegInfo). t.end) same;
        words = λ b z lo hi. other_word j b l ne z (omega (arith, first, lo)) (omega (arith, last, lower, hi));
        holes = λ q lo hi. ap₂ (λ (t : SegInfo) (rs : List (Option Piece)).
            hole_from (cond (same_kind t.kind Ephemeral) rs []) q) same (ap (λ (h : HeapView). h.rests) w.others);
        held = λ b lo hi in_one. rw (
          memory_index-shapes new.memories now.memories b w.memories,
          length-shapes
              new.memories now.memories w.memories,
        ) in_one;
      } in
      let parts = parts_stay rows now new j j was.walkable there in
      record {
        segment = same ∙ was.segment;
        walkable = parts.walkable;
        items = ap items_in parts.parts ∙ was.items;
        cells = λ i m on b z lo hi.
            let is = all_at (IsItem rows (first_of old j) (last_of old j)) m
            (listing-are rows old held.walkable j l) in
            let low = is.above in
            let high = is.below in
            other_word j b l ne z (omega arith) (omega arith) ∙ was.cells i m on b z lo hi;
        free_heads =
            subst (HaveFreeHeads (word_of new)) (sym (ap items_in parts.parts))
            (part_heads_stay (sight rows now j) (word_of new) (parts_of rows now j) (first_of now j) (last_of now j)
            was.walkable.start was.walkable.spelled
            (λ b z lo hi. other_word j b l ne z (omega (arith, first, lo)) (omega (arith, last, lower, hi)))
            was.free_heads);
      }

  -- and one that is ahead stays as it was
  pub still_ahead : (j : ℕ) → j ≢ k → IsAhead old now j → j < length old.segments → IsAhead old new j
  still_ahead j ne was l = record {
    segment = other_segment j ne ∙ was.segment;
    words = λ b z lo hi. other_word j b l ne z lo hi ∙ was.words b z lo hi;
  }
