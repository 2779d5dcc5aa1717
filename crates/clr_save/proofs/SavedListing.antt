-- The listing of a machine whose contexts are given up, segment by segment.
use Rattle.std.proofs.Common.{◌≡◌, ◌≢◌, ℕ, zero, suc, ◌+◌, ◌≤◌, ◌<◌, Bool, true, false, List, [], ◌∷◌, ◌++◌}
use Rattle.std.proofs.Common.{filter, length, map, refl, ap, ap₂, sym, ◌∙◌, subst, arith, append-nil, inl, inr}
use Rattle.std.proofs.lemmas.Bool.{cases_Bool, cases_eq, cases_lt}
use Rattle.std.proofs.lemmas.List.{append_assoc, map-append}
use Rattle.std.proofs.lemmas.List.Elements.{filter-append}
use Rattle.std.specs.List.{AllByRecursion}
use Rattle.clr_types.specs.Ranges.{by_place, Piece}
use Rattle.clr_types.specs.Rising.{sorted_by}
use Rattle.clr_types.specs.Segments.{first_place, reserved_end, rest_pieces, stands_in}
use Rattle.clr_types.specs.Types.{TypeRow}
use Rattle.clr_types.specs.declared.item.Item.{Item}
use Rattle.clr_types.specs.declared.segment.SegInfo.{SegInfo}
use Rattle.clr_types.proofs.ChangedLists.{all_imply, rising-distinct, rising-sorted, sorted_by-done}
use Rattle.clr_types.proofs.SegmentFacts.{between-stands, stands-between}
use Rattle.clr_types.proofs.Shuffles.{followed, IsShuffled, shuffled-left, shuffled-map, shuffled-right}
use Rattle.clr_types.proofs.Shuffles.{shuffled-sorted}
use Rattle.clr_types.proofs.Shuffles.{shuffled-sorts, shuffled-sym}
use Rattle.clr_heap.specs.View.{first_of, heap_items, HeapView, IsHeap, last_of, segment_at}
use Rattle.clr_heap.proofs.Framing.{lawful_at}
use Rattle.clr_heap.proofs.Staying.{segment_order}
use Rattle.clr_model.specs.Listing.{free_item, object_item}
use Rattle.clr_view.specs.View.{free_in, IsHeld, objects_in}
use Rattle.clr_view.proofs.Items.{IsItem}
use Rattle.clr_view.proofs.Walked.{listing_shown}
use Rattle.clr_save.proofs.SavedItems.{from-all, from-rise, from-shuffled, rests_from, saved_from, saved_items}
use Rattle.clr_save.proofs.SavedItems.{segment-are}
use Rattle.clr_save.proofs.SavedRests.{rests-shuffled}

-- ---- what a test passes

all-pass : (test : Item → Bool) (items : List Item) → AllByRecursion (λ (i : Item). test i ≡ true) items
    → filter test items ≡ items
all-pass test [] all = refl
all-pass test (i ∷ items) all = let here = all.0 in
    rw here (ap (λ (is : List Item). i ∷ is) (all-pass test items all.1))

none-pass : (test : Item → Bool) (items : List Item) → AllByRecursion (λ (i : Item). test i ≡ false) items
    → filter test items ≡ []
none-pass test [] all = refl
none-pass test (i ∷ items) all = let here = all.0 in rw here (none-pass test items all.1)

-- what stands below a segment's first place, or at its end or above, doesn't stand in it
outside : (s : SegInfo) (place : ℕ) → (first_place s ≤ place → reserved_end s ≤ place) → stands_in s place ≡ false
outside s place out = elim (cases_Bool (stands_in s place)) [
  | inl is ↦
      let between = stands-between s place is in
      let low = between.0 in
      let high = between.1 in
      let over = out low in
      absurd (omega arith)
  | inr not ↦ not
]

module _ (rows : List TypeRow) (h : HeapView) (heap : IsHeap h) (held : IsHeld rows h) where
  abbrev stands : ℕ → Item → Bool
  stands k i = stands_in (segment_at h k) i.place

  -- ---- the items of one segment

  here-pass : (k : ℕ) → k < length h.segments → filter (stands k) (saved_items rows h k) ≡ saved_items rows h k
  here-pass k l =
      let end = (lawful_at h k heap l).high in
      all-pass (stands k) (saved_items rows h k)
      (all_imply (IsItem rows (first_of h k) (last_of h k)) (λ (i : Item). stands k i ≡ true) (saved_items rows h k)
      (λ i is. let low = is.above in let high = is.below in let least = is.least in
      between-stands (segment_at h k) i.place low (omega arith)) (segment-are rows h heap held.walkable k l))

  others-pass : (k j : ℕ) → k < length h.segments → j < length h.segments → j ≢ k
      → AllByRecursion (λ (i : Item). stands k i ≡ false) (saved_items rows h j)
  others-pass k j l m ne =
      let end = (lawful_at h j heap m).high in
      all_imply (IsItem rows (first_of h j) (last_of h j)) (λ (i : Item). stands k i ≡ false) (saved_items rows h j)
      (λ i is. let low = is.above in let high = is.below in let least = is.least in
      outside (segment_at h k) i.place (λ above. elim (cases_lt j k) [
        | inl lower ↦ let order = segment_order h j k heap lower l in omega arith
        | inr not ↦ let order = segment_order h k j heap (omega arith) m in omega arith
      ])) (segment-are rows h heap held.walkable j m)

  -- those of all segments that stand in one are its own
  pub segment-pass : (k j n : ℕ) → j ≤ k → k < j + n → j + n ≤ length h.segments
      → filter (stands k) (saved_from rows h j n) ≡ saved_items rows h k
  segment-pass k j zero low high l = absurd (omega arith)
  segment-pass k j (suc n) low high l =
      filter-append (stands k) (saved_items rows h j) (saved_from rows h (j + 1) n) ∙ elim (cases_eq j k) [
        | inl same ↦
            ap₂ (λ (xs ys : List Item). xs ++ ys)
            (subst (λ (i : ℕ). filter (stands k) (saved_items rows h i) ≡ saved_items rows h k) (sym same)
            (here-pass k (omega arith)))
            (none-pass (stands k) (saved_from rows h (j + 1) n)
            (from-all rows h heap held.walkable (λ (i : Item). stands k i ≡ false) (j + 1) n (λ i up down.
            others-pass k i (omega arith) (omega arith) (λ e. omega arith))))
            ∙ append-nil (saved_items rows h k)
        | inr other ↦
            let ne : j ≢ k = other in
            ap₂ (λ (xs ys : List Item). xs ++ ys)
            (none-pass (stands k) (saved_items rows h j) (others-pass k j (omega arith) (omega arith) ne))
            (segment-pass k (j + 1) n (omega arith) (omega arith) (omega arith))
      ]

  -- ---- all items

  abbrev key : Item → ℕ
  key i = i.place

  abbrev pub all : List Item
  all = saved_from rows h 0 (length h.segments)

  abbrev objects : List Item
  objects = map (object_item rows) (objects_in rows h)

  -- the items of the machine without contexts
  abbrev pub items : List Item
  items = objects ++ map free_item (by_place (free_in rows h ++ rest_pieces h.rests))

  pub listed-shuffled : IsShuffled items all
  listed-shuffled =
      let free = map free_item (free_in rows h) in
      let rests = map free_item (rest_pieces h.rests) in
      let unsorted : IsShuffled items (objects ++ map free_item (free_in rows h ++ rest_pieces h.rests)) =
      shuffled-right objects (shuffled-map free_item
      (shuffled-sym (shuffled-sorted (λ (p : Piece). p.place) (free_in rows h ++ rest_pieces h.rests)))) in
      let parted : objects ++ map free_item (free_in rows h ++ rest_pieces h.rests) ≡ (objects ++ free) ++ rests =
      ap (λ (is : List Item). objects ++ is) (map-append free_item (free_in rows h) (rest_pieces h.rests))
      ∙ sym (append_assoc objects free rests) in
      let shown : IsShuffled (objects ++ free) (heap_items rows h) =
      subst (IsShuffled (objects ++ free)) (listing_shown rows h heap held) (shuffled-sorted key (objects ++ free)) in
      let among : IsShuffled rests (map free_item (rests_from rows h 0 (length h.segments))) =
      shuffled-map free_item (shuffled-sym (rests-shuffled rows h heap held)) in
      followed (subst (IsShuffled items) parted unsorted)
      (followed (shuffled-left rests shown)
      (followed (shuffled-right (heap_items rows h) among) (shuffled-sym (from-shuffled rows h 0 (length h.segments)))))

  -- THE LISTING without contexts is the items of an image
  pub listing-saved : sorted_by key items ≡ all
  listing-saved =
      let rise = from-rise rows h heap held.walkable 0 (length h.segments) (omega arith) in
      sym (shuffled-sorts key (shuffled-sym listed-shuffled) (rising-distinct key all rise))
      ∙ sorted_by-done key all (rising-sorted key all rise)
