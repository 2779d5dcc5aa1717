-- The objects of a heap in one of its segments, and the bricks of that.
use Rattle.std.proofs.Common.{◌≡◌, inl, inr, ℕ, ◌+◌, ◌*◌, ◌/◌, ◌<◌, ◌≤◌, true, List}
use Rattle.std.proofs.Common.{length, get_or, map, filter, ap, sym, ◌∙◌, subst, arith, ℤ}
use Rattle.std.proofs.lemmas.Bool.{cases_order}
use Rattle.std.proofs.lemmas.List.{get_or-map}
use Rattle.std.proofs.Math.ListN.{length-map}
use Rattle.clr_types.specs.Rising.{IsIn}
use Rattle.clr_types.specs.Segments.{empty_segment, ephemeral, stands_in}
use Rattle.clr_types.specs.Types.{TypeRow}
use Rattle.clr_types.specs.declared.item.Item.{Item}
use Rattle.clr_types.specs.declared.segment.SegInfo.{SegInfo}
use Rattle.clr_types.proofs.ChangedLists.{out_of_filter}
use Rattle.clr_types.proofs.SegmentFacts.{between-stands, stands-between}
use Rattle.clr_covers.specs.Covers.{CoverView, is_covered, share_cover, span_of, spans}
use Rattle.clr_covers.proofs.Finding.{share_covered}
use Rattle.clr_covers.proofs.Spans.{HasAll-span}
use Rattle.clr_heap.specs.View.{first_of, frame, heap_items, HeapView, IsHeap, last_of, segment_at, word_of}
use Rattle.clr_heap.proofs.Framing.{lawful_at}
use Rattle.clr_heap.proofs.Staying.{segment_order}
use Rattle.clr_heap.proofs.Young.{young_number}
use Rattle.clr_model.specs.Lookups.{object_size}
use Rattle.clr_model.specs.Machine.{Object}
use Rattle.clr_view.specs.View.{IsHeld, is_object, object_in, objects_in}
use Rattle.clr_view.proofs.Items.{stacked-apart}
use Rattle.clr_view.proofs.Listed.{listed-sized}
use Rattle.clr_view.proofs.Listings.{heap-stacked}
use Rattle.clr_view.proofs.ObjectItems.{in_map}
use Rattle.clr_view.proofs.Standing.{Standing, standing}
use Rattle.clr_generations.specs.Laws.{IsBrickOf}
use Rattle.clr_generations.specs.Tables.{AreBricksOf, units_of}
use Rattle.clr_generations.proofs.Homes.{HasWholeBricks, HaveHomes}

-- each segment begins and ends with a brick
pub whole_bricks : (h : HeapView) (k : ℕ) → IsHeap h → k < length h.segments → HasWholeBricks (segment_at h k)
whole_bricks h k heap inside =
    let lawful = lawful_at h k heap inside in
    record { base = lawful.base; reserved = lawful.reserved }

-- so does the ephemeral one
pub young_bricks : (h : HeapView) → IsHeap h → HasWholeBricks (ephemeral (frame h))
young_bricks h heap =
    let one = heap.one_ephemeral in
    let found = young_number h.segments (omega arith) in
    subst HasWholeBricks found.2 (whole_bricks h found.0 heap found.1)

-- the bricks of a segment share a cover
pub bricks-shared : (h : HeapView) (bricks now : List (CoverView ℤ)) (k brick other : ℕ) → IsHeap h
    → k < length h.segments → AreBricksOf (frame h) bricks → spans now ≡ spans bricks → IsBrickOf (segment_at h k) brick
    → IsBrickOf (segment_at h k) other → share_cover now brick other ≡ true
bricks-shared h bricks now k brick other heap inside has same of of-other =
    let s = segment_at h k in
    let whole = whole_bricks h k heap inside in
    let base = whole.base in
    let reserved = whole.reserved in
    let all : spans now ≡ map (units_of 4096) h.segments = same ∙ has in
    let count : length now ≡ length h.segments =
    sym (length-map now (span_of {X = ℤ})) ∙ ap (λ (l : List (ℕ × ℕ)). length l) all
    ∙ length-map h.segments (units_of 4096) in
    let span : get_or (spans now) k (0, 0) ≡ units_of 4096 s =
    ap (λ (l : List (ℕ × ℕ)). get_or l k (0, 0)) all
    ∙ get_or-map (units_of 4096) h.segments k empty_segment (0, 0) inside in
    let first : (get_or (spans now) k (0, 0)).0 ≡ s.base / 4096 = ap (λ (p : ℕ × ℕ). p.0) span in
    let some : (get_or (spans now) k (0, 0)).1 ≡ s.reserved / 4096 = ap (λ (p : ℕ × ℕ). p.1) span in
    let low = of.0 in
    let high = of.1 in
    let low-other = of-other.0 in
    let high-other = of-other.1 in
    HasAll-span now k (omega arith) brick other (omega arith) (omega arith) (omega arith) (omega arith)

-- each of them is covered
pub brick-covered : (h : HeapView) (bricks now : List (CoverView ℤ)) (k brick : ℕ) → IsHeap h
    → k < length h.segments → AreBricksOf (frame h) bricks → spans now ≡ spans bricks → IsBrickOf (segment_at h k) brick
    → is_covered now brick ≡ true
brick-covered h bricks now k brick heap inside has same of =
    share_covered now brick brick (bricks-shared h bricks now k brick brick heap inside has same of of)

module _ (rows : List TypeRow) (h : HeapView) (heap : IsHeap h) (held : IsHeld rows h) where
  -- the item that an object of the heap is
  pub record IsOf (o : Object) : Type 0 where
    pub item : Item
    pub listed : IsIn item (heap_items rows h)
    pub place : item.place ≡ o.place
    pub size : item.size ≡ object_size rows o
    pub at : Standing rows h item

  pub item-of : (o : Object) → IsIn o (objects_in rows h) → IsOf o
  item-of o l =
      let found = in_map (object_in rows (word_of h)) o (filter is_object (heap_items rows h)) l in
      let listed = (out_of_filter is_object found.0 (heap_items rows h) found.1).1 in
      record {
        item = found.0;
        listed = listed;
        place = ap (λ (p : Object). p.place) found.2;
        size = listed-sized rows h found.0 heap held listed ∙ ap (λ (p : Object). object_size rows p) found.2;
        at = standing rows h heap held found.0 listed;
      }

  module _ (k : ℕ) (inside : k < length h.segments) where
    abbrev s : SegInfo
    s = segment_at h k

    -- an item that meets a brick of the segment is one of its
    meets-home : (i : Item) (brick : ℕ) → (at : Standing rows h i) → IsBrickOf s brick → i.place / 4096 ≤ brick
        → 4096 * brick < i.place + i.size → at.segment ≡ k
    meets-home i brick at of low high =
        let base = (whole_bricks h k heap inside).base in
        let base' = (whole_bricks h at.segment heap at.in_range).base in
        let reserved = (whole_bricks h k heap inside).reserved in
        let first = of.0 in
        let last = of.1 in
        let above = at.above in
        let below = at.below in
        let end = at.reserved in
        elim (cases_order at.segment k) [
          | inl same ↦ same
          | inr (inl less) ↦ let order = segment_order h at.segment k heap less inside in absurd (omega arith)
          | inr (inr more) ↦ let order = segment_order h k at.segment heap more at.in_range in absurd (omega arith)
        ]

    -- so is one that stands in it
    stands-home-item : (i : Item) → (at : Standing rows h i) → stands_in s i.place ≡ true → at.segment ≡ k
    stands-home-item i at in_s =
        let between = stands-between s i.place in_s in
        let low = between.0 in
        let high = between.1 in
        let above = at.above in
        let below = at.below in
        let end = at.reserved in
        let least = at.least in
        elim (cases_order at.segment k) [
          | inl same ↦ same
          | inr (inl less) ↦ let order = segment_order h at.segment k heap less inside in absurd (omega arith)
          | inr (inr more) ↦ let order = segment_order h k at.segment heap more at.in_range in absurd (omega arith)
        ]

    item-bounds : (i : Item) (at : Standing rows h i) → at.segment ≡ k
        → (first_of h k ≤ i.place) × (i.place + i.size ≤ last_of h k)
    item-bounds i at same =
        subst (λ (j : ℕ). (first_of h j ≤ i.place) × (i.place + i.size ≤ last_of h j)) same (at.above, at.below)

    -- THE OBJECTS OF A HEAP have their homes in its segments
    pub heap_homes : HaveHomes rows (objects_in rows h) (segment_at h k)
    heap_homes = record {
      bricks = whole_bricks h k heap inside;
      least = λ o l. (let i = item-of o l in let least = i.at.least in let size = i.size in omega arith);
      apart = λ o q l m below.
          (let i = item-of o l in
          let j = item-of q m in
          let place = i.place in
          let size = i.size in
          let place' = j.place in
          let least = j.at.least in
          elim (stacked-apart (heap_items rows h) i.item j.item (heap-stacked rows h held.walkable heap) i.listed
          j.listed (λ e. absurd (omega arith))) [
            | inl before ↦ omega arith
            | inr after ↦ absurd (omega arith)
          ]);
      home = λ o brick l of low high.
          (let i = item-of o l in
          let place = i.place in
          let size = i.size in
          let same = meets-home i.item brick i.at of (omega arith) (omega arith) in
          let bounds = item-bounds i.item i.at same in
          let up = bounds.0 in
          let down = bounds.1 in
          let least = i.at.least in
          let last = (lawful_at h k heap inside).high in
          between-stands s o.place (omega arith) (omega arith));
      within = λ o l in_s.
          (let i = item-of o l in
          let place = i.place in
          let size = i.size in
          let same = stands-home-item i.item i.at (subst (λ (p : ℕ). stands_in s p ≡ true) (sym place) in_s) in
          let down = (item-bounds i.item i.at same).1 in
          omega arith);
    }

-- a brick from the segment's first one on that begins below its end is one of its
pub brick-in : (h : HeapView) (k brick : ℕ) → IsHeap h → k < length h.segments → (segment_at h k).base / 4096 ≤ brick
    → 4096 * brick < last_of h k → IsBrickOf (segment_at h k) brick
brick-in h k brick heap inside low below =
    let whole = whole_bricks h k heap inside in
    let base = whole.base in
    let reserved = whole.reserved in
    let most = (lawful_at h k heap inside).high in
    (low, omega arith)
