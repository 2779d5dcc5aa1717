-- Where an object stands: its segment is the only one with its place.
use Rattle.std.proofs.Common.{◌≡◌, inl, inr, ℕ, zero, suc, ◌<◌, Bool, true, false, List, [], ◌∷◌, length}
use Rattle.std.proofs.Common.{get_or, if◌then◌else◌, ap, ap₂, sym, ◌∙◌, subst, arith, ◌&&◌}
use Rattle.std.proofs.lemmas.Bool.{and_parts, cases_Bool, le-leb, leb-true, lt-ltb, ltb-true}
use Rattle.clr_types.specs.Types.{TypeRow}
use Rattle.clr_types.specs.Segments.{empty_segment, first_place, generation, Layout, reserved_end, stands_in}
use Rattle.clr_types.specs.declared.item.Item.{Item}
use Rattle.clr_types.specs.declared.segment.SegInfo.{SegInfo}
use Rattle.clr_heap.specs.Memories.{HasWord, memory_index}
use Rattle.clr_heap.specs.View.{frame, heap_items, HeapView, IsHeap, segment_at, word_of}
use Rattle.clr_heap.proofs.Addresses.{index_is_segment}
use Rattle.clr_model.specs.Machine.{Machine}
use Rattle.clr_model.specs.Sos.{kind_number, size_or_zero, where_of, where_of_segments}
use Rattle.clr_model.specs.declared.Where.{Where}
use Rattle.clr_view.specs.View.{IsHeld, layout_in, objects_in}
use Rattle.clr_view.proofs.Listed.{listed-sized}
use Rattle.clr_view.proofs.Standing.{cell_has, cell_index, mt_in, Standing, standing}
use Rattle.clr_sos.proofs.ObjectsByPlace.{IsObjectWith}

-- a place in a segment, of this generation and size
abbrev pub where_in : ℕ → SegInfo → ℕ → Where
where_in generation s size =
    record { generation = generation; kind = kind_number s.kind; base = s.base; size = size }

-- a place stands in the first segment of a list that has it
first-with : (layout : Layout) (ss : List SegInfo) (k place size : ℕ) (d : SegInfo) → k < length ss
    → stands_in (get_or ss k d) place ≡ true → ((j : ℕ) → j < k → stands_in (get_or ss j d) place ≡ false)
    → where_of_segments layout ss place size ≡ where_in (generation layout place) (get_or ss k d) size
first-with layout [] k place size d l here before = absurd (omega arith)
first-with layout (s ∷ ss) zero place size d l here before =
    ap (λ (b : Bool). if b then where_in (generation layout place) s size
    else where_of_segments layout ss place size) here
first-with layout (s ∷ ss) (suc k) place size d l here before =
    ap (λ (b : Bool). if b then where_in (generation layout place) s size
    else where_of_segments layout ss place size) (before 0 (omega arith))
    ∙ first-with layout ss k place size d (omega arith) here (λ j low. before (suc j) (omega arith))

module _ (rows : List TypeRow) (h : HeapView) (heap : IsHeap h) (held : IsHeld rows h) (a : ℕ) (i : Item)
    (is : IsObjectWith rows (word_of h) a (heap_items rows h) (objects_in rows h) i) where
  abbrev place : Standing rows h i
  place = standing rows h heap held i is.listed

  -- its first word is in a segment
  pub object-has_word : HasWord h.memories a
  object-has_word = subst (HasWord h.memories) is.at
      (cell_has rows h heap held i i.place is.listed (mt_in rows h heap held i is.listed))

  index-is : memory_index h.memories a ≡ place.segment
  index-is = ap (memory_index h.memories) (sym is.at)
      ∙ cell_index rows h heap held i i.place is.listed (mt_in rows h heap held i is.listed)

  -- of those that there are
  pub object-in_range : memory_index h.memories a < length h.segments
  object-in_range = let index = index-is in let l = place.in_range in omega arith

  stands : stands_in (segment_at h (memory_index h.memories a)) a ≡ true
  stands =
      let at = is.at in
      let up = place.above in
      let down = place.below in
      let all = place.reserved in
      let least = place.least in
      let s = segment_at h place.segment in
      subst (λ (k : ℕ). stands_in (segment_at h k) a ≡ true) (sym index-is)
      (ap₂ (λ (b c : Bool). b && c) (le-leb (first_place s) a (omega arith)) (lt-ltb a (reserved_end s) (omega arith)))

  not-before : (j : ℕ) → j < memory_index h.memories a → stands_in (segment_at h j) a ≡ false
  not-before j l = elim (cases_Bool (stands_in (segment_at h j) a)) [
    | inl there ↦
        let bounds = and_parts _ _ there in
        let low = leb-true (first_place (segment_at h j)) a bounds.0 in
        let high = ltb-true a (reserved_end (segment_at h j)) bounds.1 in
        let range = object-in_range in
        let same = index_is_segment h j a heap (omega arith) (omega arith) high in
        absurd (omega arith)
    | inr nowhere ↦ nowhere
  ]

  -- WHERE THE OBJECT WITH A PLACE STANDS, in a machine with the heap's types, objects and layout
  pub where-shows : (m : Machine) → m.types ≡ rows → m.objects ≡ objects_in rows h → m.layout ≡ layout_in rows h
      → where_in (generation (frame h) a) (segment_at h (memory_index h.memories a)) i.size ≡ where_of m a
  where-shows m types objects layout =
      let size = listed-sized rows h i heap held is.listed in
      let told = ap (size_or_zero rows) (sym is.told) in
      ap (where_in (generation (frame h) a) (segment_at h (memory_index h.memories a))) (size ∙ told)
      ∙ sym (first-with (layout_in rows h) h.segments
      (memory_index h.memories a) a _ empty_segment object-in_range stands
      not-before)
      ∙ λ j. where_of (record m { types = sym types j; objects = sym objects j; layout = sym layout j }) a
