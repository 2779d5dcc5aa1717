-- One segment more is swept, and the others stay as they are.
use Rattle.std.proofs.Common.{◌≡◌, inl, inr, ℕ, ◌<◌, ◌≤◌, Bool, true, false, ◌||◌, nat_eq, List}
use Rattle.std.proofs.Common.{[], ◌++◌, length, set, refl, ap, ap₂, sym, ◌∙◌, subst, arith, length-set, cond, eqb}
use Rattle.std.proofs.Common.{Option}
use Rattle.std.proofs.lemmas.Bool.{both_ways, cases_eq, eq-eqb, ne_eqb, or_right}
use Rattle.std.proofs.lemmas.List.{get_or-set_same}
use Rattle.clr_types.specs.Ranges.{Piece}
use Rattle.clr_types.specs.Rising.{IsIn}
use Rattle.clr_types.specs.Segments.{empty_segment, ended_at, first_place, same_kind}
use Rattle.clr_types.specs.Types.{TypeRow}
use Rattle.clr_types.specs.declared.item.Item.{Item}
use Rattle.clr_types.specs.declared.segment.SegInfo.{SegInfo}
use Rattle.clr_types.specs.declared.segment.SegKind.TheVariants.{Ephemeral}
use Rattle.clr_types.proofs.RisingLists.{all_at}
use Rattle.clr_heap.specs.Parts.{hole_from, items_in, unmarked}
use Rattle.clr_heap.specs.View.{first_of, HeapView, IsHeap, IsWalkable, last_of, listing}
use Rattle.clr_heap.specs.View.{segment_at, sight, word_of}
use Rattle.clr_heap.proofs.Staying.{parts_stay, StaysAs}
use Rattle.clr_heap.proofs.Storing.{length-shapes, memory_index-shapes}
use Rattle.clr_view.specs.View.{HaveFreeHeads, IsHeld}
use Rattle.clr_view.proofs.Items.{IsItem}
use Rattle.clr_view.proofs.Listings.{listing-are}
use Rattle.clr_sweep.specs.SweptItems.{is_cut, items_below, last_end, stays, swept_from, swept_items, swept_last}
use Rattle.clr_sweep.specs.SweptSegments.{AreSwept, HasSweptSegment, IsAhead, IsParted, IsSwept}
use Rattle.clr_sweep.proofs.Agreeing.{last_agrees, swept_agrees}
use Rattle.clr_sweep.proofs.OtherSegments.{still_ahead, still_swept}
use Rattle.clr_sweep.proofs.Parting.{none_between}

-- a segment is swept whole from its first place on: nothing stands below it
none_below : (rows : List TypeRow) (h : HeapView) (k : ℕ) → items_below rows h k (first_of h k) ≡ []
none_below rows h k = ap items_in (none_between (sight rows h k) (first_of h k) (first_of h k))

pub whole_part : (rows : List TypeRow) (h : HeapView) (k : ℕ) → IsWalkable rows h k → IsParted rows h k (first_of h k)
whole_part rows h k w = record {
  below = record {
    start = w.start;
    spelled = rw (none_between (sight rows h k) (first_of h k) (first_of h k)) refl;
    held = λ a z low high. absurd (omega arith);
  };
  above = w;
}

or_left_only : (a b : Bool) → b ≡ false → (a || b) ≡ true → a ≡ true
or_left_only true b e on = refl
or_left_only false b e on = absurd (both_ways b e on)

neither : (a b : Bool) → (a || b) ≡ false → a ≡ false
neither true b off = absurd cc
neither false b off = refl

-- what the test says matters alone
pub swept_alike : (rows : List TypeRow) (old now : HeapView) (p q : ℕ → Bool) → ((j : ℕ) → j < length old.segments
    → p j ≡ q j) → AreSwept rows old now p → AreSwept rows old now q
swept_alike rows old now p q same s = record {
  memories = s.memories;
  others = s.others;
  count = s.count;
  done = λ j l on. s.done j l (same j l ∙ on);
  ahead = λ j l off. s.ahead j l (same j l ∙ off);
}

-- where none is swept, all are as they were
pub swept_none : (rows : List TypeRow) (h : HeapView) (p : ℕ → Bool) → ((j : ℕ) → p j ≡ false) → AreSwept rows h h p
swept_none rows h p none = record {
  memories = refl;
  others = refl;
  count = refl;
  done = λ j l on. absurd (both_ways (p j) (none j) on);
  ahead = λ j l off. record { segment = refl; words = λ b z lo hi. refl };
}

module _ (rows : List TypeRow) (old now : HeapView) (swept : ℕ → Bool) (k : ℕ) (heap : IsHeap old)
    (held : IsHeld rows old) (s : AreSwept rows old now swept) (inside : k < length old.segments)
    (not_yet : swept k ≡ false) where
  abbrev here : IsAhead old now k
  here = s.ahead k inside not_yet

  -- ---- what the sweep of the next segment needs

  stays_as : StaysAs old k now k
  stays_as =
      let same = here.segment in
      record {
        first = ap first_place same;
        last = ap (λ (t : SegInfo). t.end) same;
        words = λ b z lo hi. here.words b z (omega arith) (omega arith);
        holes = λ q lo hi. ap₂ (λ (t : SegInfo) (rs : List (Option Piece)).
            hole_from (cond (same_kind t.kind Ephemeral) rs []) q) same (ap (λ (h : HeapView). h.rests) s.others);
        held = λ b lo hi in_one. rw (
          memory_index-shapes now.memories old.memories b s.memories,
          length-shapes
              now.memories old.memories s.memories,
        ) in_one;
      }

  pub next_in_range : k < length now.segments
  next_in_range = let n = s.count in omega (arith, n, inside)

  pub next_walkable : IsWalkable rows now k
  next_walkable = (parts_stay rows old now k k (held.walkable k inside) stays_as).walkable

  pub parted_more : IsParted rows now k (first_of now k)
  parted_more = whole_part rows now k next_walkable

  -- ---- the same items stand in the segment, and the same of them stay

  pub same_items : listing rows now k ≡ listing rows old k
  same_items = ap items_in (parts_stay rows old now k k (held.walkable k inside) stays_as).parts

  pub same_word : (i : Item) → IsIn i (listing rows old k) → word_of now i.place ≡ word_of old i.place
  same_word i l =
      let is = all_at (IsItem rows (first_of old k) (last_of old k)) l (listing-are rows old held.walkable k inside) in
      let z = is.aligned in
      let low = is.above in
      let high = is.below in
      let least = is.least in
      here.words i.place z (omega arith) (omega arith)

  same_stays : (i : Item) → IsIn i (listing rows old k) → stays (word_of now) i ≡ stays (word_of old) i
  same_stays i l = ap (λ (w : ℕ). stays (λ _. w) i) (same_word i l)

  same_swept : swept_items rows now k ≡ swept_items rows old k
  same_swept =
      ap (λ (h : HeapView). swept_from (stays (word_of now)) (is_cut h) [] (first_of now k) (first_of now k)
      (listing rows now k)) s.others
      ∙ ap₂ (λ (f : ℕ) (is : List Item). swept_from (stays (word_of now)) (is_cut old) [] f f is)
      (ap first_place here.segment) same_items
      ∙ swept_agrees (stays (word_of now)) (stays (word_of old)) (is_cut old) [] (first_of old k) (first_of old k)
      (listing rows old k) same_stays

  same_last : swept_last rows now k ≡ swept_last rows old k
  same_last =
      ap₂ (λ (f : ℕ) (is : List Item). last_end (stays (word_of now)) f is) (ap first_place here.segment) same_items
      ∙ last_agrees (stays (word_of now)) (stays (word_of old)) (first_of old k) (listing rows old k) same_stays

  -- ---- the segment is swept

  module _ (new : HeapView) (w : HasSweptSegment rows now new k (first_of now k)) where
    abbrev ended : SegInfo
    ended = ended_at (swept_last rows now k) (segment_at now k)

    pub segments_are : new.segments ≡ set now.segments k (ended_at (swept_last rows now k) (segment_at now k))
    segments_are = ap (λ (h : HeapView). h.segments) w.others

    this_segment : segment_at new k ≡ ended_at (swept_last rows old k) (segment_at old k)
    this_segment = ap (λ (h : HeapView). segment_at h k) w.others ∙ get_or-set_same now.segments k ended empty_segment
        next_in_range ∙ ap₂ ended_at same_last here.segment

    first_same : first_of old k ≤ first_of now k
    first_same = let first = ap first_place here.segment in omega (arith, first)

    -- this one is swept
    swept_here : IsSwept rows old new k
    swept_here = record {
      segment = this_segment;
      walkable = w.walkable;
      items = w.items ∙ ap (λ (is : List Item). is ++ swept_items rows now k) (none_below rows now k) ∙ same_swept;
      cells = λ i m on b z lo hi.
          let is = all_at (IsItem rows (first_of old k) (last_of old k)) m
          (listing-are rows old held.walkable k inside) in
          let low = is.above in
          let high = is.below in
          let word = here.words b z (omega arith) (omega arith) in
          w.cells i (subst (λ (is : List Item). IsIn i is) (sym same_items) m) (same_stays i m ∙ on) b z lo hi
          ∙ ap (λ (v : ℕ). cond (eqb b i.place) (unmarked v) v) word;
      free_heads =
          subst (HaveFreeHeads (word_of new))
          (sym (w.items ∙ ap (λ (is : List Item). is ++ swept_items rows now k) (none_below rows now k))) w.free_heads;
    }

    -- THE NEXT SEGMENT is swept
    pub swept_more : AreSwept rows old new (λ j. swept j || nat_eq j k)
    swept_more = record {
      memories = w.memories ∙ s.memories;
      others = w.others
          ∙ ap (λ (h : HeapView). record h { memories = new.memories; segments = set now.segments k ended }) s.others
          ∙ ap (λ (ss : List SegInfo). record old { memories = new.memories; segments = ss }) (sym segments_are);
      count = ap length segments_are ∙ length-set now.segments k ended ∙ s.count;
      done = λ j l on. elim (cases_eq j k) [
        | inl e ↦ subst (λ (i : ℕ). IsSwept rows old new i) (sym e) swept_here
        | inr ne ↦ still_swept rows old now new k (first_of now k) heap held inside here.segment first_same w j ne
            (s.done j l (or_left_only (swept j) (nat_eq j k) (ne_eqb j k ne) on)) l
      ];
      ahead = λ j l off. elim (cases_eq j k) [
        | inl e ↦ absurd (both_ways (swept j || nat_eq j k) off (or_right (swept j) (nat_eq j k) (eq-eqb j k e)))
        | inr ne ↦ still_ahead rows old now new k (first_of now k) heap held inside here.segment first_same w j ne
            (s.ahead j l (neither (swept j) (nat_eq j k) off)) l
      ];
    }
