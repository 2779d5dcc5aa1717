-- How many bytes the objects of a heap have: no more than its segments reserve.
use Rattle.std.proofs.Common.{if◌then◌else◌, ◌≡◌, ℕ, zero, suc, ◌+◌, ◌<◌, ◌≤◌, Bool, true, false, List, [], ◌∷◌, drop}
use Rattle.std.proofs.Common.{filter, length, map, sum_by, ap, ◌∙◌, arith}
use Rattle.std.specs.List.{AllByRecursion}
use Rattle.std.proofs.Math.Seq.{drop-cons}
use Rattle.std.proofs.lemmas.List.Sums.{sum_by-append, sum_by-cons}
use Rattle.clr_types.specs.Types.{TypeRow, form_at, size_of}
use Rattle.clr_types.specs.Segments.{empty_segment, reserved_sum}
use Rattle.clr_types.specs.declared.item.Item.{Item}
use Rattle.clr_types.specs.declared.segment.SegInfo.{SegInfo}
use Rattle.clr_types.proofs.ChangedLists.{all_imply}
use Rattle.clr_heap.specs.View.{first_of, frame, heap_items, HeapView, IsHeap, last_of, listing, listings, segment_at}
use Rattle.clr_heap.specs.View.{word_of}
use Rattle.clr_heap.proofs.Framing.{lawful_at}
use Rattle.clr_model.specs.Lookups.{object_size}
use Rattle.clr_view.specs.View.{IsHeld, is_object, object_in, objects_among, objects_in}
use Rattle.clr_view.proofs.Items.{AreStacked, IsItem}
use Rattle.clr_view.proofs.Listings.{listing-are, listing-stacked, listings-all}

-- how many bytes items have
abbrev pub item_bytes : List Item → ℕ
item_bytes items = sum_by (λ (i : Item). i.size) items

-- items that stand one above the other, between two places, have no more bytes than lie between these
pub stacked-bytes : (items : List Item) (low high : ℕ) → low ≤ high → AllByRecursion (λ (i : Item). low ≤ i.place) items
    → AllByRecursion (λ (i : Item). i.place + i.size ≤ high) items → AreStacked items
    → low + item_bytes items ≤ high
stacked-bytes [] low high up above below stacked = omega (arith, up)
stacked-bytes (i ∷ items) low high up above below stacked =
    let sum = sum_by-cons (λ (x : Item). x.size) i items in
    let rest = stacked-bytes items (i.place + i.size) high below.0 stacked.0 below.1 stacked.1 in
    let here = above.0 in
    omega (arith, sum, rest, here)

-- the objects among items have no more bytes than these
pub objects-bytes : (rows : List TypeRow) (word : ℕ → ℕ) (items : List Item)
    → AllByRecursion (λ (i : Item). i.size ≡ size_of (form_at rows i.type_id.0) i.len) items
    → sum_by (object_size rows) (objects_among rows word items) ≤ item_bytes items
objects-bytes rows word [] sized = omega arith
objects-bytes rows word (i ∷ items) sized = go (is_object i) (objects-bytes rows word items sized.1)
  where
    go : (b : Bool) → sum_by (object_size rows) (objects_among rows word items) ≤ item_bytes items
        → sum_by (object_size rows)
        (map (object_in rows word) (if b then i ∷ filter is_object items else filter is_object items))
        ≤ item_bytes (i ∷ items)
    go true rest =
        let object = sum_by-cons (object_size rows) (object_in rows word i) (objects_among rows word items) in
        let item = sum_by-cons (λ (x : Item). x.size) i items in
        let size = sized.0 in
        omega (arith, rest, object, item, size)
    go false rest =
        let item = sum_by-cons (λ (x : Item). x.size) i items in
        omega (arith, rest, item)

module _ (rows : List TypeRow) (h : HeapView) (heap : IsHeap h) (held : IsHeld rows h) where
  -- the items of a segment have no more bytes than it reserves
  pub listing-bytes : (j : ℕ) → j < length h.segments → item_bytes (listing rows h j) ≤ (segment_at h j).reserved
  listing-bytes j l =
      let lawful = lawful_at h j heap l in
      let low = lawful.low in
      let high = lawful.high in
      let are = listing-are rows h held.walkable j l in
      let above = all_imply (IsItem rows (first_of h j) (last_of h j)) (λ (i : Item). first_of h j ≤ i.place)
      (listing rows h j) (λ i is. is.above) are in
      let below = all_imply (IsItem rows (first_of h j) (last_of h j)) (λ (i : Item). i.place + i.size ≤ last_of h j)
      (listing rows h j) (λ i is. is.below) are in
      let sum = stacked-bytes (listing rows h j) (first_of h j) (last_of h j) low above below
      (listing-stacked rows h held.walkable j l) in
      omega (arith, sum, high)

  abbrev reserved : List SegInfo → ℕ
  reserved ss = sum_by (λ (s : SegInfo). s.reserved) ss

  listings-bytes : (m i : ℕ) → i + m ≡ length h.segments
      → item_bytes (listings rows h i m) ≤ reserved (drop i h.segments)
  listings-bytes zero i l = omega arith
  listings-bytes (suc m) i l =
      let below : i < length h.segments = omega (arith, l) in
      let here = listing-bytes i below in
      let rest = listings-bytes m (i + 1) (omega (arith, l)) in
      let more : suc i ≡ i + 1 = omega arith in
      let cut : reserved (drop i h.segments) ≡ reserved (segment_at h i ∷ drop (i + 1) h.segments) =
      ap reserved (drop-cons h.segments i empty_segment below
      ∙ ap (λ (n : ℕ). segment_at h i ∷ drop n h.segments) more) in
      let one = sum_by-cons (λ (s : SegInfo). s.reserved) (segment_at h i) (drop (i + 1) h.segments) in
      let both = sum_by-append (λ (x : Item). x.size) (listing rows h i) (listings rows h (i + 1) m) in
      omega (arith, here, rest, cut, one, both)

  -- the items of the heap have no more bytes than its segments reserve
  pub items_bytes_bounded : item_bytes (heap_items rows h) ≤ reserved_sum (frame h)
  items_bytes_bounded = listings-bytes (length h.segments) 0 (omega arith)

  -- THE BYTES OF OBJECTS: nor have its objects
  pub objects_bytes_bounded : sum_by (object_size rows) (objects_in rows h) ≤ reserved_sum (frame h)
  objects_bytes_bounded =
      let sized = listings-all rows h held.walkable (λ (i : Item). i.size ≡ size_of (form_at rows i.type_id.0) i.len) 0
      (length h.segments) (λ j low high.
      all_imply (IsItem rows (first_of h j) (last_of h j))
      (λ (i : Item). i.size ≡ size_of (form_at rows i.type_id.0) i.len) (listing rows h j) (λ i is. is.sized)
      (listing-are rows h held.walkable j (omega (arith, high)))) in
      let objects = objects-bytes rows (word_of h) (heap_items rows h) sized in
      let items = items_bytes_bounded in
      omega (arith, objects, items)
