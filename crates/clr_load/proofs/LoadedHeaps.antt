-- Nothing is wrong with a heap that was read, and its items are those that were found.
use Rattle.std.proofs.Common.{◌≡◌, ℕ, suc, zero, ◌+◌, ◌-◌, ◌<◌, ◌≤◌, Bool, true}
use Rattle.std.proofs.Common.{false, if◌then◌else◌, List, [], ◌∷◌, ◌++◌, length, get_or, refl, sym, ◌∙◌, ap}
use Rattle.std.proofs.Common.{subst, arith, None, Ok, inl, inr, replicate}
use Rattle.std.proofs.lemmas.Bool.{cases_Bool}
use Rattle.std.proofs.lemmas.Bool.Decides.{nat_tests}
use Rattle.std.proofs.lemmas.List.{get_or-map, length-map}
use Rattle.std.specs.List.{flat_map}
use Rattle.clr_mem.specs.Words.{Memory}
use Rattle.clr_types.specs.Segments.{empty_segment, first_place, reserved_end, same_kind}
use Rattle.clr_types.specs.Types.{TypeRow}
use Rattle.clr_types.specs.declared.item.Item.{Item}
use Rattle.clr_types.specs.declared.segment.SegInfo.{SegInfo}
use Rattle.clr_types.specs.declared.segment.SegKind.TheVariants.{Ephemeral}
use Rattle.clr_heap.specs.Drafts.{is_young}
use Rattle.clr_heap.specs.Parts.{hole_from, item_parts, items_in, Spells}
use Rattle.clr_heap.specs.View.{first_of, heap_items, HeapView, holes_of, IsHeap, last_of, listing, listings}
use Rattle.clr_heap.specs.View.{no_rests, segment_at, sight}
use Rattle.clr_heap.proofs.Framing.{all_at, lawful_at}
use Rattle.clr_heap.proofs.Walking.{spelled_parts}
use Rattle.clr_sos.specs.CheckedCells.{begins_in, checked_items}
use Rattle.clr_sos.specs.Faults as faults
use Rattle.clr_sos.specs.Faults.{AreInside, has_bounds, is_between, rules_of, segment_fault, segments_fault, words_in}
use Rattle.clr_sos.proofs.FaultlessWalks.{spelled_item}
use Rattle.clr_sos.proofs.HeldHeaps.{inside_none, none_at}
use Rattle.clr_format.specs.HeapFields.{Body, is_boundary, words_from}
use Rattle.clr_heap.specs.Filled.{memory_from}
use Rattle.clr_load.proofs.CarriedItems.{AreItemsFrom, Carries, HasNoHoles, item_carried, items_carried, items_found}
use Rattle.clr_load.proofs.CarriedItems.{sized_ends, strict}
use Rattle.clr_load.proofs.LoadedWords.{words_carried}
use Rattle.clr_load.proofs.ReadSegments.{HasStarts, IsMadeOf, IsSegmentOf, memory_in, ReadSegment}

pub no_memory : Memory
no_memory = record { base = 0; words = [] }

pub no_segment : ReadSegment
no_segment = record { head = record { info = empty_segment; start1 = 0; start0 = 0 }; at = 0; items = [] }

-- ---- no thread has a context

no_hole : (n p : ℕ) → hole_from (replicate n None) p ≡ None
no_hole zero p = refl
no_hole (suc n) p = no_hole n p

none_begins : (n low high : ℕ) → begins_in (replicate n None) low high ≡ false
none_begins zero low high = refl
none_begins (suc n) low high = none_begins n low high

without_holes : (h : HeapView) (k : ℕ) → h.rests ≡ no_rests → HasNoHoles (holes_of h k)
without_holes h k rests = go (same_kind (segment_at h k).kind Ephemeral)
  where
    go : (b : Bool) → HasNoHoles (if b then h.rests else [])
    go true = subst HasNoHoles (sym rests) (record {
      from = λ p. no_hole 16 p;
      between = λ low high. none_begins 16 low high;
    })
    go false = record { from = λ p. refl; between = λ low high. refl }

pub are_inside : (h : HeapView) → h.rests ≡ no_rests → AreInside h
are_inside h rests = inside_none h (none_at h rests)

-- ---- one segment

module _ (bytes : List ℕ) (large : ℕ) (rows : List TypeRow) (b : Body) (segs : List ReadSegment)
    (made : IsMadeOf bytes large rows b segs) (heap : IsHeap b.heap) where
  abbrev h : HeapView
  h = b.heap

  count : length segs ≡ length h.segments
  count = sym (ap length made.segments ∙ length-map segs (λ (seg : ReadSegment). seg.head.info))

  module _ (k : ℕ) (l : k < length h.segments) where
    abbrev pub seg : ReadSegment
    seg = get_or segs k no_segment

    abbrev s : SegInfo
    s = segment_at h k

    l_segs : k < length segs
    l_segs = let n = count in omega arith

    pub info_is : s ≡ seg.head.info
    info_is = ap (λ (ss : List SegInfo). get_or ss k empty_segment) made.segments
        ∙ get_or-map (λ (g : ReadSegment). g.head.info) segs k no_segment empty_segment l_segs

    memory_is : get_or h.memories k no_memory ≡ memory_in bytes large rows seg
    memory_is = ap (λ (ms : List Memory). get_or ms k no_memory) made.memories
        ∙ get_or-map (memory_in bytes large rows) segs k no_segment no_memory l_segs

    pub is_segment : IsSegmentOf bytes large rows seg
    is_segment = all_at (IsSegmentOf bytes large rows) segs k no_segment made.each l_segs

    has_starts : HasStarts bytes large rows h seg
    has_starts = all_at (HasStarts bytes large rows h) segs k no_segment made.starts l_segs

    abbrev start1 : ℕ
    start1 = if faults.is_young h k then h.start1 else 0

    abbrev start0 : ℕ
    start0 = if faults.is_young h k then h.start0 else 0

    -- its boundaries are those of the heap where it is the ephemeral one, and else 0
    boundaries : (seg.head.start1 ≡ start1) × (seg.head.start0 ≡ start0)
    boundaries = go (is_young s) refl
      where
        go : (young : Bool) → is_young s ≡ young
            → (seg.head.start1 ≡ (if young then h.start1 else 0)) × (seg.head.start0 ≡ (if young then h.start0 else 0))
        go true e =
            let on : is_young seg.head.info ≡ true = ap is_young (sym info_is) ∙ e in
            (sym (has_starts.one on), sym (has_starts.zero on))
        go false e =
            let off : is_young seg.head.info ≡ false = ap is_young (sym info_is) ∙ e in
            let one = is_segment.start1 in
            let zero_ = is_segment.start0 in (
              none seg.head.info (seg.head.info.base + 0x1000) seg.head.start1 off one,
              none seg.head.info seg.head.start1 seg.head.start0 off zero_,
            )
          where
            none : (t : SegInfo) (low boundary : ℕ) → is_young t ≡ false → is_boundary t low boundary ≡ true
                → boundary ≡ 0
            none t low boundary off on = grind (arith, nat_tests, rw off at on)

    -- its items are found in the words of the image
    found : checked_items (s.end - first_place s) (strict rows s.kind s.end start1 start0 large)
        (words_from bytes s seg.at) (first_place s) ≡ Ok seg.items
    found =
        subst (λ (t : SegInfo). checked_items (t.end - first_place t) (strict rows t.kind t.end start1 start0 large)
        (words_from bytes t seg.at) (first_place t) ≡ Ok seg.items) (sym info_is)
        (subst (λ (n : ℕ). checked_items (seg.head.info.end - first_place seg.head.info)
        (strict rows seg.head.info.kind seg.head.info.end start1 n large)
        (words_from bytes seg.head.info seg.at) (first_place seg.head.info) ≡ Ok seg.items) boundaries.1
        (subst (λ (n : ℕ). checked_items (seg.head.info.end - first_place seg.head.info)
        (strict rows seg.head.info.kind seg.head.info.end n seg.head.start0 large)
        (words_from bytes seg.head.info seg.at) (first_place seg.head.info) ≡ Ok seg.items) boundaries.0
        is_segment.found))

    holes : HasNoHoles (holes_of h k)
    holes = without_holes h k made.rests

    pub carries : Carries (words_from bytes s seg.at) (words_in h) (first_of h k) (last_of h k)
    carries = words_carried bytes h k seg.at no_memory heap l
        (memory_is ∙ ap (λ (t : SegInfo). memory_from bytes t seg.at) (sym info_is))

    pub from_first : AreItemsFrom rows s.kind s.end start1 start0 large (words_from bytes s seg.at) (first_place s)
        (first_place s) seg.items
    from_first =
        let lawful = lawful_at h k heap l in
        let base = lawful.base in
        items_found rows s.kind s.end start1 start0 large (words_from bytes s seg.at) (first_place s)
        (s.end - first_place s) (first_place s) seg.items (omega arith) (omega arith) (omega arith)
        found

    -- and in the words of the heap
    pub checked : checked_items (last_of h k) (rules_of rows large h k) (words_in h) (first_of h k) ≡ Ok seg.items
    checked =
        items_carried rows s.kind s.end start1 start0 large (words_from bytes s seg.at) (holes_of h k) holes
        (words_in h) (first_place s) carries (last_of h k) (first_of h k) seg.items (omega arith) (omega arith)
        from_first

    ordered : has_bounds h k ≡ true
    ordered =
        let lawful = lawful_at h k heap l in
        let low = lawful.low in
        let up = lawful.high in
        let z = lawful.aligned in
        let end : is_between (first_of h k) (last_of h k) (reserved_end (segment_at h k)) ≡ true =
        grind (arith, nat_tests, low, up, z) in
        elim (cases_Bool (faults.is_young h k)) [
          | inr old ↦ rw (end, old) refl
          | inl young ↦
              let on : is_young seg.head.info ≡ true = ap is_young (sym info_is) ∙ young in
              let one : is_between (first_place seg.head.info) seg.head.start1 seg.head.info.end ≡ true =
              sym (rw on refl) ∙ is_segment.start1 in
              let two : is_between seg.head.start1 seg.head.start0 seg.head.info.end ≡ true =
              sym (rw on refl) ∙ is_segment.start0 in
              let first : is_between (first_of h k) h.start1 (last_of h k) ≡ true =
              ap (λ (t : SegInfo). is_between (first_place t) h.start1 t.end) info_is
              ∙ ap (λ (n : ℕ). is_between (first_place seg.head.info) n seg.head.info.end) (has_starts.one on) ∙ one in
              let second : is_between h.start1 h.start0 (last_of h k) ≡ true =
              ap (λ (t : SegInfo). is_between h.start1 h.start0 t.end) info_is
              ∙ ap (λ (n : ℕ). is_between n h.start0 seg.head.info.end) (has_starts.one on)
              ∙ ap (λ (n : ℕ). is_between seg.head.start1 n seg.head.info.end) (has_starts.zero on) ∙ two in
              rw (end, young, first, second) refl
        ]

    -- so it has no fault
    pub faultless : segment_fault rows large h k ≡ None
    faultless = let on = ordered in let all = checked in rw (on, all) refl

    -- the items are spelled from a place on
    spelled : (p : ℕ) (items : List Item)
        → AreItemsFrom rows s.kind s.end start1 start0 large (words_from bytes s seg.at) (first_place s) p items
        → p ≤ last_of h k
        → Spells (sight rows h k) p (item_parts items) (last_of h k)
    spelled p [] over most = omega arith
    spelled p (i ∷ items) (under, z, down, f, rest) most =
        let ok = item_carried rows s.kind s.end start1 start0 large (words_from bytes s seg.at) (holes_of h k) holes
        (words_in h) (first_place s) carries p i (omega arith) z down f in
        let is = spelled_item rows large h k heap l (are_inside h made.rests) p i down ok in
        let ends = sized_ends rows s.kind s.end start1 start0 large (words_from bytes s seg.at) p f.t f.len i f.sized in
        (holes.from p, is.0, is.1, spelled (p + i.size) items rest ends.3)

    items_again : (items : List Item) → items_in (item_parts items) ≡ items
    items_again [] = refl
    items_again (i ∷ items) = ap (λ (is : List Item). i ∷ is) (items_again items)

    -- and they are those that a walk meets
    pub listing_is : listing rows h k ≡ seg.items
    listing_is =
        let lawful = lawful_at h k heap l in
        ap items_in (spelled_parts (sight rows h k) (item_parts seg.items) (first_of h k) (last_of h k)
        (spelled (first_of h k) seg.items from_first lawful.low))
        ∙ items_again seg.items

  -- ---- all segments

  listings_are : (rest : List ReadSegment) (k n : ℕ) → length rest ≡ n → k + n ≡ length h.segments
      → ((j : ℕ) → get_or rest j no_segment ≡ get_or segs (k + j) no_segment)
      → listings rows h k n ≡ flat_map (λ (g : ReadSegment). g.items) rest
  listings_are [] k zero e all same = refl
  listings_are [] k (suc n) e all same = absurd (omega arith)
  listings_are (g ∷ rest) k zero e all same = absurd (omega arith)
  listings_are (g ∷ rest) k (suc n) e all same =
      let at : k + 0 ≡ k = omega arith in
      let here : g ≡ get_or segs k no_segment = same 0 ∙ ap (λ (i : ℕ). get_or segs i no_segment) at in
      let l : k < length h.segments = omega arith in
      let first : listing rows h k ≡ g.items = listing_is k l ∙ ap (λ (x : ReadSegment). x.items) (sym here) in
      let ih = listings_are rest (k + 1) n (omega arith) (omega arith)
      (λ j. same (suc j) ∙ ap (λ (i : ℕ). get_or segs i no_segment)
      (let m : k + suc j ≡ k + 1 + j = omega arith in m)) in
      ap (λ (xs : List Item). xs ++ listings rows h (k + 1) n) first ∙ ap (λ (xs : List Item). g.items ++ xs) ih

  -- THE ITEMS of the heap are those that were found
  pub items_are : heap_items rows h ≡ b.items
  items_are =
      listings_are segs 0 (length h.segments) count
      (let e : 0 + length h.segments ≡ length h.segments = omega arith in e)
      (λ j. ap (λ (i : ℕ). get_or segs i no_segment) (let e : j ≡ 0 + j = omega arith in e))
      ∙ sym made.items

  none_from : (k n : ℕ) → k + n ≡ length h.segments → segments_fault rows large h k n ≡ None
  unfolding segments_fault
  none_from k zero e = refl
  none_from k (suc n) e =
      let here = faultless k (omega arith) in
      let ih = none_from (k + 1) n (omega arith) in
      rw here ih

  -- no segment has a fault
  pub segments_faultless : segments_fault rows large h 0 (length h.segments) ≡ None
  segments_faultless =
      none_from 0 (length h.segments) (let e : 0 + length h.segments ≡ length h.segments = omega arith in e)
