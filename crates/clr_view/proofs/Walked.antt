-- A walk over all segments gives the listing of the machine that a heap shows.
use Rattle.std.proofs.Common.{if◌then◌else◌, ◌≡◌, ◌≢◌, ℕ, ◌+◌, ◌-◌, ◌%◌, ◌<◌, Bool, true, false, List, [], ◌∷◌, ◌++◌}
use Rattle.std.proofs.Common.{filter, length, map, not, refl, ap, ap₂, sym, ◌∙◌, arith}
use Rattle.std.specs.List.{AllByRecursion}
use Rattle.std.proofs.lemmas.Bool.{eqb-true, le-leb}
use Rattle.std.proofs.lemmas.List.{append-nil}
use Rattle.clr_types.specs.Rising.{insert_by, IsRisingBy, sorted_by}
use Rattle.clr_types.specs.Types.{TypeRow, form_at, size_of}
use Rattle.clr_types.specs.declared.item.Item.{Item}
use Rattle.clr_types.proofs.ChangedLists.{all_imply, sorted_by-among}
use Rattle.clr_heap.specs.Parts.{item_piece}
use Rattle.clr_heap.specs.View.{first_of, heap_items, HeapView, IsHeap, last_of, listing, listings, word_of}
use Rattle.clr_model.specs.Listing.{free_item, object_item}
use Rattle.clr_view.specs.View.{free_among, free_in, IsHeld, is_free, is_object, object_in, objects_among, objects_in}
use Rattle.clr_view.proofs.Items.{IsItem}
use Rattle.clr_view.proofs.Listings.{heap-cut, heap-rise, listing-are, listings-all}

-- ---- segment by segment

-- a walk over k + 1 segments goes on where one over k ends
pub walked-on : (rows : List TypeRow) (h : HeapView) (k : ℕ)
    → listings rows h 0 (k + 1) ≡ listings rows h 0 k ++ listing rows h k
walked-on rows h k =
    let none : k + 1 - (k + 1) ≡ 0 = omega arith in
    heap-cut rows h k (k + 1) (omega arith)
    ∙ ap (λ (n : ℕ). listings rows h 0 k ++ (listing rows h k ++ listings rows h (k + 1) n)) none
    ∙ ap (λ (is : List Item). listings rows h 0 k ++ is) (append-nil (listing rows h k))

-- ---- items, as the machine lists them

-- an item has the size of its type and length, and a free one whole words
pub record IsSized (rows : List TypeRow) (i : Item) : Type 0 where
  pub sized : i.size ≡ size_of (form_at rows i.type_id.0) i.len
  pub whole : i.type_id.0 ≡ 0 → i.len % 8 ≡ 0

module _ (rows : List TypeRow) (word : ℕ → ℕ) where
  object-shown : (i : Item) → IsSized rows i → object_item rows (object_in rows word i) ≡ i
  object-shown i s = let size = sym s.sized in λ k. record i { size = size k }

  free-shown : (i : Item) → IsSized rows i → i.type_id.0 ≡ 0 → free_item (item_piece i) ≡ i
  free-shown i s free =
      let z = s.whole free in
      let size : i.size ≡ size_of (form_at rows 0) i.len =
      s.sized ∙ ap (λ (t : ℕ). size_of (form_at rows t) i.len) free in
      let len : i.size - 24 ≡ i.len = omega arith in
      let type = sym free in
      λ k. record i { type_id = record { 0 = type k }; len = len k }

  abbrev place : Item → ℕ
  place i = i.place

  shown-all : (P : ℕ → Type 0) (items : List Item) → AllByRecursion (λ (i : Item). P i.place) items
      → AllByRecursion (λ (i : Item). P i.place) (map (object_item rows) (objects_among rows word items))
  shown-all P [] all = tt
  shown-all P (i ∷ items) all = go (is_object i) (shown-all P items all.1)
    where
      go : (b : Bool)
          → AllByRecursion (λ (i : Item). P i.place) (map (object_item rows) (objects_among rows word items))
          → AllByRecursion (λ (i : Item). P i.place)
          (map (object_item rows)
          (map (object_in rows word) (if b then i ∷ filter is_object items else filter is_object items)))
      go true rest = (all.0, rest)
      go false rest = rest

  lowest : (i : Item) (items : List Item) → AllByRecursion (λ (j : Item). i.place < j.place) items
      → insert_by place i items ≡ i ∷ items
  lowest i [] above = refl
  lowest i (j ∷ items) above = let l = above.0 in let first = le-leb i.place j.place (omega arith) in rw first refl

  -- the items of the objects and of the free ranges among them
  abbrev shown_items : List Item → List Item
  shown_items items = map (object_item rows) (objects_among rows word items) ++ map free_item (free_among items)

  -- items that rise, parted into objects and free items and put in order again
  pub parted-sorted : (items : List Item) → IsRisingBy place items → AllByRecursion (IsSized rows) items
      → sorted_by place (shown_items items) ≡ items
  parted-sorted [] rise all = refl
  parted-sorted (i ∷ items) rise all = go (is_free i) refl (parted-sorted items rise.1 all.1)
    where
      go : (b : Bool) → is_free i ≡ b → sorted_by place (shown_items items) ≡ items
          → sorted_by place
          (map (object_item rows)
          (map (object_in rows word) (if not b then i ∷ filter is_object items else filter is_object items))
          ++ map free_item (map item_piece (if b then i ∷ filter is_free items else filter is_free items))) ≡ i ∷ items
      go true e rest =
          let apart = shown-all (λ n. n ≢ i.place) items
          (all_imply (λ (j : Item). i.place < j.place) (λ (j : Item). j.place ≢ i.place) items (λ j l same. omega arith)
          rise.0) in
          let frees = map free_item (free_among items) in
          sorted_by-among place (map (object_item rows) (objects_among rows word items)) (free_item (item_piece i))
          frees apart
          ∙ ap₂ (λ (j : Item) (js : List Item). insert_by place j js) (free-shown i all.0 (eqb-true i.type_id.0 0 e))
          rest
          ∙ lowest i items rise.0
      go false e rest = ap₂ (λ (j : Item) (js : List Item). insert_by place j js) (object-shown i all.0) rest
          ∙ lowest i items rise.0

-- THE LISTING: the objects and free items that a heap shows, by rising place, are the items of a walk over it
pub listing_shown : (rows : List TypeRow) (h : HeapView) → IsHeap h → IsHeld rows h
    → sorted_by (λ i. i.place) (map (object_item rows) (objects_in rows h) ++ map free_item (free_in rows h))
    ≡ heap_items rows h
listing_shown rows h heap held =
    parted-sorted rows (word_of h) (heap_items rows h) (heap-rise rows h held.walkable heap)
    (listings-all rows h held.walkable (IsSized rows) 0 (length h.segments) (λ j low high.
    all_imply (IsItem rows (first_of h j) (last_of h j)) (IsSized rows) (listing rows h j)
    (λ i is. record { sized = is.sized; whole = is.whole }) (listing-are rows h held.walkable j (omega arith))))
