-- The items of a heap are of known types, and have few bytes.
use Rattle.std.proofs.Common.{◌+◌, ◌≤◌, ◌<◌, ◌^◌, ℕ, List, [], ◌∷◌, length, arith}
use Rattle.std.specs.List.{AllByRecursion}
use Rattle.std.proofs.lemmas.List.Sums.{sum_by-cons}
use Rattle.clr_types.specs.Types.{TypeRow}
use Rattle.clr_types.specs.declared.item.Item.{Item}
use Rattle.clr_types.proofs.ChangedLists.{all_imply}
use Rattle.clr_heap.specs.View.{AreWalkable, first_of, heap_items, HeapView, IsHeap, last_of, listing}
use Rattle.clr_heap.proofs.Framing.{below_top_at, lawful_at}
use Rattle.clr_view.proofs.Items.{AreStacked, IsItem}
use Rattle.clr_view.proofs.Listings.{heap-stacked, listing-are, listings-all}
use Rattle.clr_model.specs.Sos.{bytes_in}
use Rattle.clr_sos.specs.Dumping.{AreListed}

-- items that stand one above the other, between two places, have no more bytes than lie between these
stacked-sum : (items : List Item) (low high : ℕ) → low ≤ high → AllByRecursion (λ (i : Item). low ≤ i.place) items
    → AllByRecursion (λ (i : Item). i.place + i.size ≤ high) items → AreStacked items → low + bytes_in items ≤ high
stacked-sum [] low high up above below stacked = omega (arith, up)
stacked-sum (i ∷ items) low high up above below stacked =
    let sum = sum_by-cons (λ (x : Item). x.size) i items in
    let rest = stacked-sum items (i.place + i.size) high below.0 stacked.0 below.1 stacked.1 in
    let here = above.0 in omega (arith, sum, rest, here)

module _ (rows : List TypeRow) (h : HeapView) (heap : IsHeap h) (walkable : AreWalkable rows h) where
  -- what holds of each item of a segment holds of all
  all-items : (P : Item → Type 0) → ((j : ℕ) → j < length h.segments → (i : Item)
      → IsItem rows (first_of h j) (last_of h j) i → P i) → AllByRecursion P (heap_items rows h)
  all-items P each = listings-all rows h walkable P 0 (length h.segments) (λ j low high.
      let l : j < length h.segments = omega arith in
      all_imply (IsItem rows (first_of h j) (last_of h j)) P (listing rows h j) (each j l)
      (listing-are rows h walkable j l))

  -- the items of a heap have few bytes
  heap-bytes : bytes_in (heap_items rows h) < 2 ^ 62
  heap-bytes =
      let below = all-items (λ (i : Item). i.place + i.size ≤ h.top) (λ j l i is.
      let high = (lawful_at h j heap l).high in let top = below_top_at h j heap l in let below = is.below in
      omega (arith, below, high, top)) in
      let above = all_imply (λ (i : Item). i.place + i.size ≤ h.top) (λ (i : Item). 0 ≤ i.place) (heap_items rows h)
      (λ i l. omega arith) below in
      let sum = stacked-sum (heap_items rows h) 0 h.top (omega arith) above below (heap-stacked rows h walkable heap) in
      let top = heap.top_small in omega (arith, sum, top)

  pub heap-listed : AreListed rows (heap_items rows h)
  heap-listed = record {
    known = all-items (λ (i : Item). i.type_id.0 ≤ length rows) (λ j l i is. is.known);
    least = all-items (λ (i : Item). 24 ≤ i.size) (λ j l i is. is.least);
    few = heap-bytes;
  }
