-- A heap has few objects.
use Rattle.std.proofs.Common.{◌≡◌, ℕ, ◌^◌, ◌<◌, ◌≤◌, List, [], ◌∷◌, filter, length, arith, Bool, true, false}
use Rattle.std.proofs.Common.{if◌then◌else◌}
use Rattle.std.specs.List.{AllByRecursion}
use Rattle.std.proofs.lemmas.List.{length-map}
use Rattle.std.proofs.lemmas.List.Sums.{sum_by-cons}
use Rattle.clr_types.specs.Types.{TypeRow}
use Rattle.clr_types.specs.declared.item.Item.{Item}
use Rattle.clr_types.proofs.ChangedLists.{all_imply}
use Rattle.clr_heap.specs.View.{first_of, heap_items, HeapView, IsHeap, last_of, listing, word_of}
use Rattle.clr_view.specs.View.{IsHeld, is_object, object_in, objects_in}
use Rattle.clr_view.proofs.HeldBytes.{item_bytes, items_bytes_bounded}
use Rattle.clr_view.proofs.Items.{IsItem}
use Rattle.clr_view.proofs.Listings.{listing-are, listings-all}

pub few_pass : {X : Type 0} (test : X → Bool) (xs : List X) → length (filter test xs) ≤ length xs
few_pass test [] = omega arith
few_pass test (x ∷ xs) = go (test x) (few_pass test xs)
  where
    go : (b : Bool) → length (filter test xs) ≤ length xs
        → length (if b then x ∷ filter test xs else filter test xs) ≤ length (x ∷ xs)
    go true l = omega arith
    go false l = omega arith

-- there are no more items than bytes of items
fewer_than_bytes : (items : List Item) → AllByRecursion (λ (i : Item). 24 ≤ i.size) items
    → length items ≤ item_bytes items
fewer_than_bytes [] all = omega arith
fewer_than_bytes (i ∷ items) all =
    let cut = sum_by-cons (λ (x : Item). x.size) i items in
    let rest = fewer_than_bytes items all.1 in
    let least = all.0 in
    omega (arith, cut, rest, least)

pub few_objects : (rows : List TypeRow) (h : HeapView) → IsHeap h → IsHeld rows h
    → length (objects_in rows h) < 2 ^ 63
few_objects rows h heap held =
    let sizes = listings-all rows h held.walkable (λ (i : Item). 24 ≤ i.size) 0 (length h.segments) (λ j low high.
    all_imply (IsItem rows (first_of h j) (last_of h j)) (λ (i : Item). 24 ≤ i.size) (listing rows h j)
    (λ i is. is.least)
    (listing-are rows h held.walkable j (omega (arith, high)))) in
    let items = fewer_than_bytes (heap_items rows h) sizes in
    let some = few_pass is_object (heap_items rows h) in
    let objects = length-map (filter is_object (heap_items rows h)) (object_in rows (word_of h)) in
    let bytes = items_bytes_bounded rows h heap held in
    let within = heap.within_limit in
    let small = heap.limit_small in
    omega (arith, items, some, objects, bytes, within, small)
