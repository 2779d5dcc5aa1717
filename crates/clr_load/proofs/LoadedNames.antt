-- What references of an image name are the words of the heap, and where each names what it may, nothing is wrong with
-- the heap.
use Rattle.std.proofs.Common.{◌≡◌, ℕ, suc, ◌+◌, ◌-◌, ◌*◌, ◌/◌, ◌%◌, ◌<◌, ◌≤◌, not, true, List, [], ◌∷◌}
use Rattle.std.proofs.Common.{◌++◌, length, map, get_or, refl, sym, ◌∙◌, ap, ap₂, subst, arith, Option, Some, None}
use Rattle.std.proofs.lemmas.List.{length-map, map-append}
use Rattle.std.specs.List.{AllByRecursion, flat_map, list_all}
use Rattle.clr_types.specs.Descriptors.{reference_offsets}
use Rattle.clr_types.specs.Rising.{IsIn}
use Rattle.clr_types.specs.Types.{form_at, size_of, TypeRow}
use Rattle.clr_types.specs.declared.item.Item.{Item}
use Rattle.clr_types.specs.declared.segment.SegInfo.{SegInfo}
use Rattle.clr_types.proofs.ChangedLists.{IsIn-map}
use Rattle.clr_types.proofs.Offsets.{inside_law}
use Rattle.clr_types.proofs.RisingLists.{all_at}
use Rattle.clr_heap.specs.View.{first_of, heap_items, HeapView, IsHeap, segment_at, word_of}
use Rattle.clr_view.specs.View.{IsHeld}
use Rattle.clr_sos.specs.CheckedCells.{or_else, Words}
use Rattle.clr_sos.specs.Faults.{addresses, is_name, item_addresses, locals_fault}
use Rattle.clr_sos.specs.Faults.{lowest, references_fault}
use Rattle.clr_sos.specs.Faultless.{IsFaultless}
use Rattle.clr_sos.proofs.FaultlessHeaps.{lawful_if}
use Rattle.clr_sos.proofs.HeldHeaps.{faultless_held, none_at}
use Rattle.clr_sos.proofs.JudgedNames.{lowest-none}
use Rattle.clr_sos.proofs.ListTests.{all_true, filter-none}
use Rattle.clr_format.specs.HeapFields.{Body, references_in, value_or_zero, word_named, words_from}
use Rattle.clr_load.proofs.CarriedItems.{AreItemsFrom, Carries, clear_there, IsItemIn, sized_ends}
use Rattle.clr_load.proofs.LoadedHeaps.{are_inside, carries, from_first, info_is, items_are, no_segment}
use Rattle.clr_load.proofs.LoadedHeaps.{seg, segments_faultless}
use Rattle.clr_load.proofs.ReadSegments.{IsMadeOf, names_in, ReadSegment}

-- ---- the references of items

module _ (rows : List TypeRow) (s : SegInfo) (start1 start0 large : ℕ) (bytes : List ℕ) (o : ℕ) (word : ℕ → ℕ)
    (low : ℕ) (carried : Carries (words_from bytes s o) (λ a. Some (word a)) low s.end) where
  abbrev words : Words
  words = words_from bytes s o

  abbrev named : List ℕ → List ℕ
  named as_ = map (λ (r : ℕ × ℕ). r.1) (map (word_named bytes s o) as_)

  abbrev IsOffset : ℕ → ℕ → Type 0
  IsOffset size offset = (8 ≤ offset) × (offset + 16 ≤ size) × (offset % 8 ≡ 0)

  module _ (p t len : ℕ) (z : p % 8 ≡ 0) (down : low ≤ p) (i : Item)
      (f : IsItemIn rows s.kind s.end start1 start0 large words p i) where
    -- the word of a reference
    reference_word : (offset : ℕ) → IsOffset (size_of (form_at rows f.t) f.len) offset
        → value_or_zero (words (p + offset)) ≡ word (p + offset)
    reference_word offset inside =
        let least = inside.0 in
        let most = inside.1 in
        let whole = inside.2 in
        let ends = sized_ends rows s.kind s.end start1 start0 large words p f.t f.len i f.sized in
        let up = ends.3 in
        let size = ends.4 in
        let at : p + 8 + 8 * ((offset - 8) / 8) ≡ p + offset = omega arith in
        let there = clear_there ((size_of (form_at rows f.t) f.len - 16) / 8) _ words (p + 8) f.sized.clear
        ((offset - 8) / 8) (omega arith) in
        let here : words (p + offset) ≡ Some there.0 = ap words (sym at) ∙ there.1 in
        let same : Some (word (p + offset)) ≡ Some there.0 =
        carried (p + offset) there.0 (omega arith) (omega arith) (omega arith) here in
        let value : word (p + offset) ≡ there.0 = cc in
        ap value_or_zero here ∙ sym value

    offsets_named : (offsets : List ℕ) → AllByRecursion (IsOffset (size_of (form_at rows f.t) f.len)) offsets
        → named (map (λ offset. p + offset) offsets) ≡ map word (map (λ offset. p + offset) offsets)
    offsets_named [] all = refl
    offsets_named (offset ∷ offsets) all =
        ap₂ (λ (x : ℕ) (xs : List ℕ). x ∷ xs) (reference_word offset all.0) (offsets_named offsets all.1)

    -- the references of one item
    item_named : named (item_addresses rows i) ≡ map word (item_addresses rows i)
    item_named =
        subst (λ (j : Item). named (item_addresses rows j) ≡ map word (item_addresses rows j)) f.sized.is
        (offsets_named (reference_offsets (form_at rows f.t) f.len) (inside_law (form_at rows f.t) f.len))

  named_both : (xs ys : List ℕ) → named (xs ++ ys) ≡ named xs ++ named ys
  named_both xs ys =
      ap (map (λ (r : ℕ × ℕ). r.1)) (map-append (word_named bytes s o) xs ys)
      ∙ map-append (λ (r : ℕ × ℕ). r.1) (map (word_named bytes s o) xs) (map (word_named bytes s o) ys)

  -- and those of several
  pub items_named : (p : ℕ) (items : List Item)
      → AreItemsFrom rows s.kind s.end start1 start0 large words low p items
      → named (flat_map (item_addresses rows) items) ≡ map word (flat_map (item_addresses rows) items)
  items_named p [] over = refl
  items_named p (i ∷ items) (under, z, down, f, rest) =
      named_both (item_addresses rows i) (flat_map (item_addresses rows) items)
      ∙ ap₂ (λ (xs ys : List ℕ). xs ++ ys) (item_named p f.t f.len z down i f) (items_named (p + i.size) items rest)
      ∙ sym (map-append word (item_addresses rows i) (flat_map (item_addresses rows) items))

-- ---- the references of a heap

addresses_both : (rows : List TypeRow) (xs ys : List Item) → addresses rows (xs ++ ys)
    ≡ addresses rows xs ++ addresses rows ys
addresses_both rows [] ys = refl
addresses_both rows (i ∷ xs) ys =
    ap (λ (as_ : List ℕ). item_addresses rows i ++ as_) (addresses_both rows xs ys)
    ∙ joined (item_addresses rows i) (addresses rows xs) (addresses rows ys)
  where
    joined : (as_ bs cs : List ℕ) → as_ ++ (bs ++ cs) ≡ (as_ ++ bs) ++ cs
    joined [] bs cs = refl
    joined (a ∷ as_) bs cs = ap (λ (xs : List ℕ). a ∷ xs) (joined as_ bs cs)

module _ (bytes : List ℕ) (large : ℕ) (rows : List TypeRow) (b : Body) (segs : List ReadSegment)
    (made : IsMadeOf bytes large rows b segs) (heap : IsHeap b.heap) where
  abbrev h : HeapView
  h = b.heap

  segment_named : (k : ℕ) (l : k < length h.segments)
      → map (λ (r : ℕ × ℕ). r.1) (names_in bytes large rows (seg bytes large rows b segs made heap k l))
      ≡ map (word_of h) (addresses rows (seg bytes large rows b segs made heap k l).items)
  segment_named k l =
      let g = seg bytes large rows b segs made heap k l in
      subst (λ (s : SegInfo). map (λ (r : ℕ × ℕ). r.1) (references_in bytes rows s g.at g.items)
      ≡ map (word_of h) (addresses rows g.items)) (info_is bytes large rows b segs made heap k l)
      (items_named rows (segment_at h k) _ _ large bytes g.at (word_of h) (first_of h k)
      (carries bytes large rows b segs made heap k l) (first_of h k) g.items
      (from_first bytes large rows b segs made heap k l))

  all_named : (rest : List ReadSegment) (k : ℕ) → k + length rest ≡ length h.segments
      → ((j : ℕ) → get_or rest j no_segment ≡ get_or segs (k + j) no_segment)
      → map (λ (r : ℕ × ℕ). r.1) (flat_map (names_in bytes large rows) rest)
      ≡ map (word_of h) (addresses rows (flat_map (λ (g : ReadSegment). g.items) rest))
  all_named [] k e same = refl
  all_named (g ∷ rest) k e same =
      let at : k + 0 ≡ k = omega arith in
      let here : get_or segs k no_segment ≡ g = sym (same 0 ∙ ap (λ (i : ℕ). get_or segs i no_segment) at) in
      let l : k < length h.segments = omega arith in
      let first = subst (λ (x : ReadSegment). map (λ (r : ℕ × ℕ). r.1) (names_in bytes large rows x)
      ≡ map (word_of h) (addresses rows x.items)) here (segment_named k l) in
      let ih = all_named rest (k + 1) (omega arith)
      (λ j. same (suc j) ∙ ap (λ (i : ℕ). get_or segs i no_segment)
      (let m : k + suc j ≡ k + 1 + j = omega arith in m)) in
      map-append (λ (r : ℕ × ℕ). r.1) (names_in bytes large rows g) (flat_map (names_in bytes large rows) rest)
      ∙ ap₂ (λ (xs ys : List ℕ). xs ++ ys) first ih
      ∙ sym (ap (map (word_of h)) (addresses_both rows g.items (flat_map (λ (x : ReadSegment). x.items) rest))
      ∙ map-append (word_of h) (addresses rows g.items) (addresses rows (flat_map (λ (x : ReadSegment). x.items) rest)))

  -- WHAT REFERENCES NAME
  pub references_are : map (λ (r : ℕ × ℕ). r.1) b.references ≡ map (word_of h) (addresses rows (heap_items rows h))
  references_are =
      ap (map (λ (r : ℕ × ℕ). r.1)) made.references
      ∙ all_named segs 0 (let e : 0 + length segs ≡ length h.segments = let n = many in omega arith in e)
      (λ j. ap (λ (i : ℕ). get_or segs i no_segment) (let e : j ≡ 0 + j = omega arith in e))
      ∙ ap (λ (xs : List Item). map (word_of h) (addresses rows xs))
      (sym made.items ∙ sym (items_are bytes large rows b segs made heap))
    where
      many : length segs ≡ length h.segments
      many = sym (ap length made.segments ∙ length-map segs (λ (g : ReadSegment). g.head.info))

  -- ---- nothing is wrong

  module _ (locals : List ℕ)
      (names : AllByRecursion (λ (x : ℕ). is_name b.items x ≡ true) (map (λ (r : ℕ × ℕ). r.1) b.references))
      (named_locals : (x : ℕ) → IsIn x locals → is_name b.items x ≡ true) where
    all_good : (a : ℕ) → IsIn a (addresses rows (heap_items rows h)) → is_name (heap_items rows h) (word_of h a) ≡ true
    all_good a m =
        ap (λ (xs : List Item). is_name xs (word_of h a)) (items_are bytes large rows b segs made heap)
        ∙ all_at (λ (x : ℕ). is_name b.items x ≡ true) (IsIn-map (word_of h) m)
        (subst (AllByRecursion (λ (x : ℕ). is_name b.items x ≡ true)) references_are names)

    pub is_faultless : IsFaultless rows large h locals
    is_faultless =
        let items = heap_items rows h in
        let same = items_are bytes large rows b segs made heap in
        let one = segments_faultless bytes large rows b segs made heap in
        let two : references_fault rows h ≡ None =
        ap (lowest None)
        (filter-none (λ a. not (is_name items (word_of h a))) (addresses rows items)
        (λ a m. ap not (all_good a m))) ∙ lowest-none None in
        let three : list_all (is_name items) locals ≡ true =
        all_true (is_name items) locals
        (λ x m. ap (λ (xs : List Item). is_name xs x) same ∙ named_locals x m) in
        let last : locals_fault rows h locals ≡ None = rw three refl in
        lawful_if rows large h locals heap (are_inside h made.rests)
        (ap (λ (f : Option ℕ). or_else f (or_else (references_fault rows h) (locals_fault rows h locals))) one
        ∙ ap (λ (f : Option ℕ). or_else f (locals_fault rows h locals)) two ∙ last)

  -- so that it holds objects
  pub is_held : (locals : List ℕ) → IsFaultless rows large h locals → IsHeld rows h
  is_held locals faultless = faultless_held rows large h locals heap (none_at h made.rests) faultless
