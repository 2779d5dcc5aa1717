-- Items fill the segments of a heap in which no thread has a context.
use Rattle.std.proofs.Common.{◌≡◌, ℕ, zero, suc, ◌+◌, ◌-◌, ◌<◌, ◌≤◌, ◌⊎◌, inl, inr, Bool, true, false, not}
use Rattle.std.proofs.Common.{if◌then◌else◌, List, [], ◌∷◌, ◌++◌, filter, map, length, get_or, refl, ap, sym, ◌∙◌}
use Rattle.std.proofs.Common.{subst, arith, Option, None, Some, IsSome, replicate, append-nil}
use Rattle.std.proofs.lemmas.Bool.{cases_Bool}
use Rattle.std.proofs.lemmas.List.Elements.{filter-append}
use Rattle.std.proofs.lemmas.List.{map-append}
use Rattle.std.specs.List.{AllByRecursion}
use Rattle.clr_types.specs.LawfulLayout.{AreBounded, DoesNotCross, IsLawfulLayout, IsTiled}
use Rattle.clr_types.specs.Ranges.{by_place, Piece, piece_end, Tiles}
use Rattle.clr_types.specs.Rising.{first, IsIn, IsRisingBy, later}
use Rattle.clr_types.specs.Segments.{empty_segment, ephemeral, first_place, Layout, pieces_in, rest_pieces, same_kind}
use Rattle.clr_types.specs.Segments.{segment_of, segments_of, stands_in}
use Rattle.clr_types.specs.Types.{TypeRow}
use Rattle.clr_types.specs.declared.item.Item.{Item}
use Rattle.clr_types.specs.declared.segment.SegInfo.{SegInfo}
use Rattle.clr_types.specs.declared.segment.SegKind.{SegKind}
use Rattle.clr_types.specs.declared.segment.SegKind.TheVariants.{Ephemeral, Large}
use Rattle.clr_types.proofs.ChangedLists.{all_imply, all_members, rising-distinct, rising-sorted, sorted_by-done}
use Rattle.clr_types.proofs.ListMembers.{from-map}
use Rattle.clr_types.proofs.RisingLists.{all_at}
use Rattle.clr_types.proofs.SegmentFacts.{between-stands, segment_of-home, stands-between}
use Rattle.clr_types.proofs.Shuffles.{followed, IsShuffled, nothing, shuffled-behind, shuffled-sorts, shuffled-sym}
use Rattle.clr_types.proofs.Shuffles.{under}
use Rattle.clr_heap.specs.Parts.{hole_from, item_part, item_piece, items_in, Part, rest_part, Sight, Spells}
use Rattle.clr_heap.specs.View.{first_of, frame, heap_items, HeapView, holes_of, IsHeap, last_of, listing, listings}
use Rattle.clr_heap.specs.View.{no_rests, parts_of, segment_at, sight, word_of}
use Rattle.clr_heap.proofs.Framing.{lawful_at}
use Rattle.clr_heap.proofs.Spelling.{item_size}
use Rattle.clr_heap.proofs.Staying.{segment_order}
use Rattle.clr_view.specs.View.{free_among, free_in, IsHeld, is_free, is_object, layout_in, object_in, objects_among}
use Rattle.clr_view.specs.View.{objects_in}
use Rattle.clr_view.proofs.Items.{IsItem}
use Rattle.clr_view.proofs.Listings.{heap-cut, heap-rise, listing-are, listings-all}
use Rattle.clr_view.proofs.Standing.{Standing, standing}
use Rattle.clr_view.proofs.Tails.{found-young, IsEphemeral, kind-young}
use Rattle.clr_view.proofs.Walked.{IsSized}
use Rattle.clr_model.specs.Lawful.{IsLaid}
use Rattle.clr_model.specs.Lookups.{object_piece, pieces}
use Rattle.clr_model.specs.Machine.{Machine}
use Rattle.clr_generations.proofs.FoundItems.{in-at}
use Rattle.clr_sweep.proofs.Filters.{filter-all, filter-none}
use Rattle.clr_sos.specs.Faultless.{HasBounds, IsFaultless}
use Rattle.clr_ctx.proofs.Resting.{free_rises}

-- ---- pieces

piece-is : (rows : List TypeRow) (word : ℕ → ℕ) (i : Item) → IsSized rows i
    → object_piece rows (object_in rows word i) ≡ item_piece i
piece-is rows word i s = let size = sym s.sized in λ k. record { place = i.place; size = size k }

-- objects and free items are the items, in some order
parted : (rows : List TypeRow) (word : ℕ → ℕ) (items : List Item) → AllByRecursion (IsSized rows) items
    → IsShuffled (map (object_piece rows) (objects_among rows word items) ++ free_among items) (map item_piece items)
parted rows word [] all = nothing
parted rows word (i ∷ items) all = go (is_free i) (parted rows word items all.1)
  where
    objects : List Piece
    objects = map (object_piece rows) (objects_among rows word items)

    go : (b : Bool) → IsShuffled (objects ++ free_among items) (map item_piece items)
        → IsShuffled (map (object_piece rows)
        (map (object_in rows word) (if not b then i ∷ filter is_object items else filter is_object items))
        ++ map item_piece (if b then i ∷ filter is_free items else filter is_free items)) (map item_piece (i ∷ items))
    go true rest =
        followed (shuffled-sym (shuffled-behind (item_piece i) objects (free_among items))) (under rest)
    go false rest =
        subst (λ (p : Piece). IsShuffled (p ∷ (objects ++ free_among items)) (map item_piece (i ∷ items)))
        (sym (piece-is rows word i all.0)) (under rest)

pieces-rise : (items : List Item) → IsRisingBy (λ (i : Item). i.place) items
    → IsRisingBy (λ (p : Piece). p.place) (map item_piece items)
pieces-rise [] rise = tt
pieces-rise (i ∷ items) rise = (above items rise.0, pieces-rise items rise.1)
  where
    above : (js : List Item) → AllByRecursion (λ (j : Item). i.place < j.place) js
        → AllByRecursion (λ (p : Piece). i.place < p.place) (map item_piece js)
    above [] all = tt
    above (j ∷ js) all = (all.0, above js all.1)

-- in order, they are the items
pub parted-pieces : (rows : List TypeRow) (word : ℕ → ℕ) (items : List Item) → AllByRecursion (IsSized rows) items
    → IsRisingBy (λ (i : Item). i.place) items
    → by_place (map (object_piece rows) (objects_among rows word items) ++ free_among items) ≡ map item_piece items
parted-pieces rows word items all rise =
    let place : Piece → ℕ = λ (p : Piece). p.place in
    let up = pieces-rise items rise in
    sym (shuffled-sorts place (shuffled-sym (parted rows word items all))
    (rising-distinct place (map item_piece items) up))
    ∙ sorted_by-done place (map item_piece items) (rising-sorted place (map item_piece items) up)

-- ---- tiles

-- parts without holes are items that fill what they spell
tiles-spelled : (s : Sight) (ps : List Part) (p e : ℕ) → ((a : ℕ) → hole_from s.holes a ≡ None) → Spells s p ps e
    → Tiles p e (map item_piece (items_in ps))
tiles-spelled s [] p e none h = h
tiles-spelled s (item_part i ∷ ps) p e none h =
    let size = item_size s i p h.1 h.2 in
    let at : i.place ≡ p = size.2 in
    let next : p + i.size ≡ piece_end (item_piece i) = omega (arith, at) in (
      at,
      (size.0, size.1),
      subst (λ (a : ℕ). Tiles a e (map item_piece (items_in ps))) next
          (tiles-spelled s ps (p + i.size) e none h.3),
    )
tiles-spelled s (rest_part low high ∷ ps) p e none h = absurd (clash (sym (none p) ∙ h.1))
  where
    clash : None ≡ Some high → ⊥
    clash same = cc

no-hole : (n a : ℕ) → hole_from (replicate n None) a ≡ None
no-hole zero a = refl
no-hole (suc n) a = no-hole n a

-- one of two numbers is lower, or they are one
in-order : (m n : ℕ) → (m ≡ n) ⊎ ((m < n) ⊎ (n < m))
in-order zero zero = inl refl
in-order zero (suc n) = inr (inl (omega arith))
in-order (suc m) zero = inr (inr (omega arith))
in-order (suc m) (suc n) = elim (in-order m n) [
  | inl same ↦ inl (ap suc same)
  | inr (inl l) ↦ inr (inl (omega arith))
  | inr (inr l) ↦ inr (inr (omega arith))
]

module _ (rows : List TypeRow) (h : HeapView) (heap : IsHeap h) (held : IsHeld rows h)
    (alone : h.rests ≡ no_rests) where
  abbrev items : List Item
  items = heap_items rows h

  abbrev ps : List Piece
  ps = map item_piece items

  sized : AllByRecursion (IsSized rows) items
  sized =
      listings-all rows h held.walkable (IsSized rows) 0 (length h.segments) (λ j low high.
      all_imply (IsItem rows (first_of h j) (last_of h j)) (IsSized rows) (listing rows h j)
      (λ i is. record { sized = is.sized; whole = is.whole }) (listing-are rows h held.walkable j (omega arith)))

  -- the pieces of the machine that the heap shows are its items
  pub shown-pieces : by_place ((map (object_piece rows) (objects_in rows h) ++ free_in rows h) ++ rest_pieces h.rests)
      ≡ map item_piece (heap_items rows h)
  shown-pieces =
      ap (λ (rests : List (Option Piece)).
      by_place ((map (object_piece rows) (objects_in rows h) ++ free_in rows h) ++ rest_pieces rests)) alone
      ∙ ap by_place (append-nil (map (object_piece rows) (objects_in rows h) ++ free_in rows h))
      ∙ parted-pieces rows (word_of h) items sized (heap-rise rows h held.walkable heap)

  holes-none : (k a : ℕ) → hole_from (holes_of h k) a ≡ None
  holes-none k a = go (same_kind (segment_at h k).kind Ephemeral)
    where
      go : (b : Bool) → hole_from (if b then h.rests else []) a ≡ None
      go true = ap (λ (rests : List (Option Piece)). hole_from rests a) alone ∙ no-hole 16 a
      go false = refl

  listing-tiles : (k : ℕ) → k < length h.segments
      → Tiles (first_of h k) (last_of h k) (map item_piece (listing rows h k))
  listing-tiles k l =
      tiles-spelled (sight rows h k) (parts_of rows h k) (first_of h k) (last_of h k) (holes-none k)
      (held.walkable k l).spelled

  -- ---- the pieces of one segment

  stands-here : (k : ℕ) → k < length h.segments → (p : Piece) → IsIn p (map item_piece (listing rows h k))
      → stands_in (segment_at h k) p.place ≡ true
  stands-here k l p i =
      let from = from-map item_piece p (listing rows h k) i in
      let is = all_at (IsItem rows (first_of h k) (last_of h k)) from.2 (listing-are rows h held.walkable k l) in
      let low = is.above in
      let high = is.below in
      let least = is.least in
      let up = (lawful_at h k heap l).high in
      let at : p.place ≡ from.0.place = ap (λ (q : Piece). q.place) from.1 in
      between-stands (segment_at h k) p.place (omega (arith, low, at)) (omega (arith, high, least, up, at))

  stands-apart : (j k : ℕ) → j < length h.segments → k < length h.segments → (j < k) ⊎ (k < j) → (p : Piece)
      → IsIn p (map item_piece (listing rows h j)) → stands_in (segment_at h k) p.place ≡ false
  stands-apart j k lj lk apart p i = elim (cases_Bool (stands_in (segment_at h k) p.place)) [
    | inr off ↦ off
    | inl on ↦
        let (low, high) = stands-between (segment_at h k) p.place on in
        let (low', high') = stands-between (segment_at h j) p.place (stands-here j lj p i) in
        elim apart [
          | inl below ↦ let o = segment_order h j k heap below lk in absurd (omega (arith, low, high', o))
          | inr above ↦ let o = segment_order h k j heap above lj in absurd (omega (arith, low', high, o))
        ]
  ]

  none-of : (k n i : ℕ) → k < length h.segments → i + n ≤ length h.segments
      → ((j : ℕ) → i ≤ j → j < i + n → (j < k) ⊎ (k < j))
      → pieces_in (segment_at h k) (map item_piece (listings rows h i n)) ≡ []
  none-of k zero i lk within apart = refl
  none-of k (suc n) i lk within apart =
      let test : Piece → Bool = λ (p : Piece). stands_in (segment_at h k) p.place in
      ap (filter test) (map-append item_piece (listing rows h i) (listings rows h (i + 1) n))
      ∙ filter-append test (map item_piece (listing rows h i)) (map item_piece (listings rows h (i + 1) n))
      ∙ ap (λ (qs : List Piece). qs ++ filter test (map item_piece (listings rows h (i + 1) n)))
      (filter-none test (map item_piece (listing rows h i))
      (stands-apart i k (omega arith) lk (apart i (omega arith) (omega arith))))
      ∙ none-of k n (i + 1) lk (omega arith) (λ j low high. apart j (omega arith) (omega arith))

  pieces-here : (k : ℕ) → k < length h.segments → pieces_in (segment_at h k) ps ≡ map item_piece (listing rows h k)
  pieces-here k l =
      let test : Piece → Bool = λ (p : Piece). stands_in (segment_at h k) p.place in
      let below = listings rows h 0 k in
      let here = listing rows h k in
      let above = listings rows h (k + 1) (length h.segments - (k + 1)) in
      ap (λ (is : List Item). filter test (map item_piece is)) (heap-cut rows h k (length h.segments) l)
      ∙ ap (filter test) (map-append item_piece below (here ++ above)
      ∙ ap (λ (qs : List Piece). map item_piece below ++ qs) (map-append item_piece here above))
      ∙ filter-append test (map item_piece below) (map item_piece here ++ map item_piece above)
      ∙ ap (λ (qs : List Piece). qs ++ filter test (map item_piece here ++ map item_piece above))
      (none-of k k 0 l (omega arith) (λ j low high. inl (omega arith)))
      ∙ filter-append test (map item_piece here) (map item_piece above)
      ∙ ap (λ (qs : List Piece). filter test (map item_piece here) ++ qs)
      (none-of k (length h.segments - (k + 1)) (k + 1) l (omega arith) (λ j low high. inr (omega arith)))
      ∙ append-nil (filter test (map item_piece here))
      ∙ filter-all test (map item_piece here) (stands-here k l)

  all-segments : (P : SegInfo → Type 0) → ((k : ℕ) → k < length h.segments → P (segment_at h k))
      → AllByRecursion P h.segments
  all-segments P each = go h.segments (λ k l. each k l)
    where
      go : (ss : List SegInfo) → ((k : ℕ) → k < length ss → P (get_or ss k empty_segment)) → AllByRecursion P ss
      go [] f = tt
      go (s ∷ ss) f = (f 0 (omega arith), go ss (λ k l. f (suc k) (omega arith)))

  pub items-tiled : AllByRecursion (IsTiled (map item_piece (heap_items rows h))) h.segments
  items-tiled = all-segments (IsTiled ps) (λ k l.
      subst (Tiles (first_of h k) (last_of h k)) (sym (pieces-here k l)) (listing-tiles k l))

  -- ---- boundaries

  module _ (large : ℕ) (locals : List ℕ) (faultless : IsFaultless rows large h locals) where
    young-bounds : (k : ℕ) × IsEphemeral h k × HasBounds h k
    young-bounds =
        let found = found-young h heap in
        let kind = kind-young h found.0 heap found.1 in
        (found.0, found.1, faultless.bounds found.0 found.1.in_range (ap (λ (q : SegKind). same_kind q Ephemeral) kind))

    -- where the boundary stands in the ephemeral segment, and no item of that crosses it, none does
    whole-at : (boundary k : ℕ) → IsEphemeral h k → first_of h k ≤ boundary → boundary ≤ last_of h k
        → ((i : Item) → IsIn i (listing rows h k) → DoesNotCross boundary (item_piece i))
        → AllByRecursion (DoesNotCross boundary) (map item_piece (heap_items rows h))
    whole-at boundary k is low high here =
        all_members (DoesNotCross boundary) ps (λ p i.
        let from = from-map item_piece p items i in
        let there = standing rows h heap held from.0 from.2 in
        subst (DoesNotCross boundary) (sym from.1) (item-whole from.0 there))
      where
        item-whole : (i : Item) → Standing rows h i → DoesNotCross boundary (item_piece i)
        item-whole i there =
            let j = there.segment in
            let lj = there.in_range in
            let a = there.above in
            let b = there.below in
            let up = there.reserved in
            let end = (lawful_at h k heap is.in_range).high in
            elim (in-order j k) [
              | inl same ↦ here i (subst (λ (n : ℕ). IsIn i (listing rows h n)) same there.listed)
              | inr (inl below) ↦
                  let o = segment_order h j k heap below is.in_range in
                  inr (omega (arith, b, up, o, low))
              | inr (inr above) ↦
                  let o = segment_order h k j heap above lj in
                  inl (omega (arith, a, o, end, high))
            ]

    module _ (bounded : AreBounded h.segments) (some : 0 < length (segments_of Large (frame h))) where
      -- THE LAYOUT is lawful
      pub shown-layout : IsLawfulLayout (layout_in rows h)
      shown-layout =
          let (k, is, bounds) = young-bounds in
          let first' = ap first_place is.is in
          let end = ap (λ (s : SegInfo). s.end) is.is in
          let low = bounds.low in
          let high = bounds.high in
          record {
            segments = heap.segments;
            bounded = bounded;
            disjoint = heap.disjoint;
            below_top = heap.below_top;
            top_aligned = heap.top_aligned;
            one_ephemeral = heap.one_ephemeral;
            ephemeral_last = heap.ephemeral_last;
            some_large = some;
            start1_low = omega (arith, first', low);
            start1_high = bounds.middle;
            start0_high = omega (arith, end, high);
            aligned = bounds.aligned;
            free_rise = free_rises rows h held.walkable heap;
            threads = heap.threads;
          }

      items-housed : AllByRecursion (λ (p : Piece). IsSome (segment_of (layout_in rows h) p.place)) ps
      items-housed = all_members (λ (p : Piece). IsSome (segment_of (layout_in rows h) p.place)) ps (λ p i.
          let from = from-map item_piece p items i in
          let there = standing rows h heap held from.0 from.2 in
          let low = there.above in
          let high = there.below in
          let least = there.least in
          let up = there.reserved in
          let at : p.place ≡ from.0.place = ap (λ (q : Piece). q.place) from.1 in
          let s = segment_at h there.segment in
          subst IsSome (sym (segment_of-home (layout_in rows h) shown-layout s p.place
          (in-at h.segments there.segment empty_segment there.in_range)
          (between-stands s p.place (omega (arith, low, at)) (omega (arith, high, least, up, at))))) refl)

      -- ITEMS FILL THE SEGMENTS
      pub shown-laid : (m : Machine) → m.types ≡ rows → m.objects ≡ objects_in rows h → m.layout ≡ layout_in rows h
          → IsLaid m
      shown-laid m types objects layout =
          let (k, is, bounds) = young-bounds in
          let low = bounds.low in
          let mid = bounds.middle in
          let high = bounds.high in
          let young = ap (λ (q : SegKind). same_kind q Ephemeral) (kind-young h k heap is) in
          let whole1 = whole-at h.start1 k is low (omega arith)
          (λ i l. (faultless.placed k i is.in_range l).old young) in
          let whole0 = whole-at h.start0 k is (omega arith) high
          (λ i l. (faultless.placed k i is.in_range l).young young) in
          let same : pieces m ≡ ps =
          (λ x.
          by_place ((map (object_piece (types x)) (objects x) ++ (layout x).free) ++ rest_pieces (layout x).rests))
          ∙ shown-pieces in
          record {
            layout = subst IsLawfulLayout (sym layout) shown-layout;
            housed = subst (λ (l : Layout). AllByRecursion (λ (p : Piece). IsSome (segment_of l p.place)) (pieces m))
                (sym layout) (subst (AllByRecursion (λ (p : Piece). IsSome (segment_of (layout_in rows h) p.place)))
                (sym same) items-housed);
            tiled = subst (λ (l : Layout). AllByRecursion (IsTiled (pieces m)) l.segments) (sym layout)
                (subst (λ (qs : List Piece). AllByRecursion (IsTiled qs) h.segments) (sym same) items-tiled);
            whole1 = subst (λ (l : Layout). AllByRecursion (DoesNotCross l.start1) (pieces m)) (sym layout)
                (subst (AllByRecursion (DoesNotCross h.start1)) (sym same) whole1);
            whole0 = subst (λ (l : Layout). AllByRecursion (DoesNotCross l.start0) (pieces m)) (sym layout)
                (subst (AllByRecursion (DoesNotCross h.start0)) (sym same) whole0);
          }
