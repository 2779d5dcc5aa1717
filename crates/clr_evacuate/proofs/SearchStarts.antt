-- Where a search for older free items may begin: where an item does, and there again when a run goes into an item.
use Rattle.std.proofs.Common.{◌≡◌, ◌≢◌, inl, inr, ℕ, ◌+◌, ◌-◌, ◌<◌, ◌≤◌, true, false, Bool, List, [], ◌∷◌, ◌++◌}
use Rattle.std.proofs.Common.{refl, sym, ap, subst, ◌∙◌, arith, filter, if◌then◌else◌, ◌==◌, length, map, not}
use Rattle.std.proofs.Common.{nat_le, nat_lt, true≢false}
use Rattle.std.specs.List.{AllByRecursion}
use Rattle.std.proofs.lemmas.Bool.{and_parts, cases_Bool, cases_eq, leb-true, ltb-true, ne_eqb}
use Rattle.clr_types.specs.Ranges.{Piece, piece_end, range_piece}
use Rattle.clr_types.specs.Rising.{first, IsIn, later}
use Rattle.clr_types.specs.Segments.{ephemeral, Layout}
use Rattle.clr_types.specs.Types.{TypeRow}
use Rattle.clr_types.specs.declared.item.Item.{Item}
use Rattle.clr_types.specs.declared.segment.SegInfo.{SegInfo}
use Rattle.clr_types.specs.declared.segment.SegKind.{SegKind}
use Rattle.clr_types.specs.declared.segment.SegKind.TheVariants.{Ephemeral, Large, Pinned, Small}
use Rattle.clr_types.proofs.ChangedLists.{append_left, into_filter, IsIn-map, out_of_filter}
use Rattle.clr_types.proofs.ListMembers.{append_right, from-map, rising_same}
use Rattle.clr_types.proofs.RisingLists.{in_cons}
use Rattle.clr_types.proofs.SegmentFacts.{between-stands}
use Rattle.clr_types.proofs.SortedLists.{into_sorted_by}
use Rattle.clr_heap.specs.Parts.{item_piece}
use Rattle.clr_heap.specs.View.{first_of, frame, heap_items, HeapView, IsHeap, last_of, listing, segment_at, word_of}
use Rattle.clr_heap.proofs.Framing.{below_top_at, lawful_at}
use Rattle.clr_model.specs.Fitting.{taken_from}
use Rattle.clr_model.specs.Machine.{Object}
use Rattle.clr_view.specs.View.{free_in, is_free, IsHeld, is_object, object_in, objects_in}
use Rattle.clr_view.proofs.Items.{stacked-apart}
use Rattle.clr_view.proofs.Listings.{heap-rise, heap-stacked}
use Rattle.clr_view.proofs.Standing.{listed_from, standing}
use Rattle.clr_view.proofs.Tails.{found-young, only-young}
use Rattle.clr_sweep.proofs.LargeSwept.{one_segment}
use Rattle.clr_moves.specs.Objects.{moved_object}
use Rattle.clr_evacuate.specs.CarriedRun.{CanCarryRun, HasCarriedRun, is_within, run_of}
use Rattle.clr_evacuate.specs.Fittings.{AreSideBySide}
use Rattle.clr_evacuate.specs.Searching.{CanSearchFrom, older_end, older_end_of}
use Rattle.clr_evacuate.proofs.CarriedRuns.{inside}
use Rattle.clr_evacuate.proofs.Copying.{free_item_of}

-- ---- in one heap

module _ (rows : List TypeRow) (h : HeapView) (heap : IsHeap h) (held : IsHeld rows h) (order : h.start1 ≤ h.start0)
  where
    -- generation 2 of a segment ends within it
    pub older-within : (k : ℕ) → k < length h.segments → older_end h k ≤ last_of h k
    older-within k inside = by (segment_at h k).kind refl
      where
        by : (kind : SegKind) → (segment_at h k).kind ≡ kind → older_end_of kind (last_of h k) h.start1 ≤ last_of h k
        by Small e = omega arith
        by Ephemeral e =
            let (j, young) = found-young h heap in
            let is : segment_at h k ≡ ephemeral (frame h) =
            ap (segment_at h) (only-young h j heap young k inside e) ∙ young.is in
            let tail = ap (λ (s : SegInfo). s.end) is in
            let high = held.young in
            omega (arith, tail, high, order)
        by Large e = omega arith
        by Pinned e = omega arith

    -- a search may begin where an item does
    pub begins-at : (i : Item) → IsIn i (heap_items rows h) → CanSearchFrom rows h i.place
    begins-at i listed k inside above below =
        let s = standing rows h heap held i listed in
        let up = s.above in
        let down = s.below in
        let least = s.least in
        let reserved = s.reserved in
        let within = older-within k inside in
        let high = (lawful_at h k heap inside).high in
        let same : s.segment ≡ k = one_segment h heap s.segment k i.place s.in_range inside
        (between-stands (segment_at h s.segment) i.place up (omega (arith, down, least, reserved)))
        (between-stands (segment_at h k) i.place (omega (arith, above)) (omega (arith, below, within, high))) in
        (i, subst (λ (n : ℕ). IsIn i (listing rows h n)) same s.listed, refl)

    -- and behind all places
    pub begins-behind : CanSearchFrom rows h 18446744073709551615
    begins-behind k inside above below =
        let within = older-within k inside in
        let high = (lawful_at h k heap inside).high in
        let top = below_top_at h k heap inside in
        let small = heap.top_small in
        absurd (omega (arith, below, within, high, top, small))

-- ---- when a run goes into an item

-- other items stay when the front of one is taken
into_taken : (at n : ℕ) (ps : List Piece) (p : Piece) → IsIn p ps → p.place ≢ at → IsIn p (taken_from at n ps)
into_taken at n [] p m ne = elim m [ ]
into_taken at n (j ∷ ps) p m ne = elim (in_cons m) [
  | inl same ↦ append_left (taken_from at n ps) (here same)
  | inr more ↦ append_right (if j.place == at then range_piece (j.place + n) (piece_end j) else j ∷ [])
      (into_taken at n ps p more ne)
]
  where
    here : p ≡ j → IsIn p (if j.place == at then range_piece (j.place + n) (piece_end j) else j ∷ [])
    here same =
        let at_j = ap (λ (q : Piece). q.place) same in
        let miss = ne_eqb j.place at (λ e. ne (at_j ∙ e)) in
        subst (λ (b : Bool). IsIn p (if b then range_piece (j.place + n) (piece_end j) else j ∷ [])) (sym miss)
        (subst (λ (q : Piece). IsIn p (q ∷ [])) same first)

-- what isn't an object is free
free_else : (i : Item) → is_object i ≡ false → is_free i ≡ true
free_else i other = go (is_free i) other
  where
    go : (b : Bool) → not b ≡ false → b ≡ true
    go true e = refl
    go false e = absurd (true≢false e)

module _ (rows : List TypeRow) (old new : HeapView) (run : List Item) (plug item : Piece) (heap : IsHeap old)
    (held : IsHeld rows old) (next : IsHeap new) (can : CanCarryRun rows old run plug item)
    (c : HasCarriedRun rows old new run plug item) where
  -- an item that begins within objects side by side is one of them
  in_run : (is : List Item) (q e : ℕ) → AllByRecursion (λ (j : Item). IsIn j (heap_items rows old)) is
      → AreSideBySide q is e → (i : Item) → IsIn i (heap_items rows old) → q ≤ i.place → i.place < e → IsIn i is
  in_run [] q e listed side i n low high = absurd (let at : q ≡ e = side in omega (arith, at, low, high))
  in_run (j ∷ is) q e listed side i n low high =
      let at = side.0 in
      elim (cases_eq j.place i.place) [
        | inl same ↦
            let is_j : j ≡ i = rising_same (λ (x : Item). x.place) (heap_items rows old) j i
            (heap-rise rows old held.walkable heap) listed.0 n same in
            subst (λ (x : Item). IsIn x (j ∷ is)) is_j first
        | inr ne ↦
            let least = (standing rows old heap held i n).least in
            elim (stacked-apart (heap_items rows old) j i (heap-stacked rows old held.walkable heap) listed.0 n ne) [
              | inl under ↦ later (in_run is (q + j.size) e listed.1 side.1 i n (omega (arith, under, at)) high)
              | inr over ↦ absurd (omega (arith, over, at, low, least))
            ]
      ]

  -- an item begins where a piece is that is free afterwards
  free_there : (p : Piece) → IsIn p (taken_from item.place plug.size (free_in rows old) ++ map item_piece run)
      → (k : Item) × IsIn k (heap_items rows new) × (k.place ≡ p.place)
  free_there p m =
      let free = ap (λ (l : Layout). l.free) c.layout in
      let (k, is) = free_item_of rows new p (subst (IsIn p) (sym free)
      (into_sorted_by (λ (q : Piece). q.place) p
      (taken_from item.place plug.size (free_in rows old) ++ map item_piece run) m)) in
      (k, is.listed, sym (ap (λ (q : Piece). q.place) is.is))

  -- and where an object goes
  object_there : (j : Item) → IsIn j (heap_items rows old) → is_object j ≡ true → (to : ℕ)
      → (if is_within plug j.place then item.place + (j.place - plug.place) else j.place) ≡ to
      → (k : Item) × IsIn k (heap_items rows new) × (k.place ≡ to)
  object_there j listed object to goes =
      let o : Object = object_in rows (word_of old) j in
      let there : IsIn o (objects_in rows old) =
      IsIn-map (object_in rows (word_of old)) (into_filter is_object (heap_items rows old) object listed) in
      let now : IsIn (moved_object (run_of plug item.place) o) (objects_in rows new) =
      subst (IsIn (moved_object (run_of plug item.place) o)) (sym c.objects)
      (into_sorted_by (λ (p : Object). p.name) (moved_object (run_of plug item.place) o)
      (map (moved_object (run_of plug item.place)) (objects_in rows old))
      (IsIn-map (moved_object (run_of plug item.place)) there)) in
      let (k, is, among) = from-map (object_in rows (word_of new)) (moved_object (run_of plug item.place) o)
      (filter is_object (heap_items rows new)) now in
      let (object_k, listed_k) = out_of_filter is_object k (heap_items rows new) among in
      (k, listed_k, sym (ap (λ (p : Object). p.place) is) ∙ goes)

  -- the first object of the run goes to the item's front
  front_there : (is : List Item) → AllByRecursion (λ (j : Item). IsIn j (heap_items rows old)) is
      → AllByRecursion (λ (j : Item). is_object j ≡ true) is → AreSideBySide plug.place is (piece_end plug)
      → (k : Item) × IsIn k (heap_items rows new) × (k.place ≡ item.place)
  front_there [] listed objects side = absurd (let at : plug.place ≡ piece_end plug = side in
      let least = can.least in omega (arith, at, least))
  front_there (j ∷ is) listed objects side =
      let at = side.0 in
      let least = can.least in
      let on = inside plug j.place (omega (arith, at)) (omega (arith, at, least)) in
      object_there j listed.0 objects.0 item.place
      (ap (λ (b : Bool). if b then item.place + (j.place - plug.place) else j.place) on ∙ omega (arith, at))

  -- WHERE AN ITEM BEGAN, one begins
  pub begins_stays : (i : Item) → IsIn i (heap_items rows old)
      → (j : Item) × IsIn j (heap_items rows new) × (j.place ≡ i.place)
  begins_stays i listed = elim (cases_Bool (is_object i)) [
    | inl object ↦ elim (cases_Bool (is_within plug i.place)) [
      | inl on ↦
          let (low, high) = and_parts (nat_le plug.place i.place) (nat_lt i.place (piece_end plug)) on in
          free_there (item_piece i) (append_right (taken_from item.place plug.size (free_in rows old))
          (IsIn-map item_piece (in_run run plug.place (piece_end plug) can.listed can.side_by_side i listed
          (leb-true plug.place i.place low) (ltb-true i.place (piece_end plug) high))))
      | inr off ↦ object_there i listed object i.place
          (ap (λ (b : Bool). if b then item.place + (i.place - plug.place) else i.place) off)
    ]
    | inr other ↦ elim (cases_eq i.place item.place) [
      | inl same ↦
          let (k, there, at) = front_there run can.listed can.objects can.side_by_side in
          (k, there, at ∙ sym same)
      | inr ne ↦ free_there (item_piece i) (append_left (map item_piece run)
          (into_taken item.place plug.size (free_in rows old) (item_piece i)
          (IsIn-map item_piece (into_filter is_free (heap_items rows old) (free_else i other) listed)) ne))
    ]
  ]

  -- so a search may begin where it could
  pub search_stays : old.start1 ≤ old.start0 → (place : ℕ) → CanSearchFrom rows old place
      → CanSearchFrom rows new place
  search_stays order place could k inside above below =
      let same = c.shape.others in
      let inside_old : k < length old.segments = subst (λ (g : HeapView). k < length g.segments) same inside in
      let (i, n, at) = could k inside_old (subst (λ (g : HeapView). first_of g k < place) same above)
      (subst (λ (g : HeapView). place < older_end g k) same below) in
      let (j, m, at_j) = begins_stays i (listed_from rows old k i inside_old n) in
      let one = ap (λ (g : HeapView). g.start1) same in
      let zero = ap (λ (g : HeapView). g.start0) same in
      subst (CanSearchFrom rows new) (at_j ∙ at)
      (begins-at rows new next c.held (omega (arith, one, zero, order)) j m) k inside above below
