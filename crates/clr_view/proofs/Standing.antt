-- Where objects stand: the words of their cells, and that no object starts inside another one's cell.
use Rattle.std.proofs.Common.{◌≡◌, ◌≢◌, inl, inr, ℕ, ◌+◌, ◌-◌, ◌%◌, ◌<◌, ◌≤◌, true, List, [], ◌∷◌, length, refl, sym}
use Rattle.std.proofs.Common.{◌∙◌, subst, arith}
use Rattle.clr_types.specs.Rising.{first, IsIn, later}
use Rattle.clr_types.specs.Types.{TypeRow}
use Rattle.clr_types.specs.Segments.{reserved_end}
use Rattle.clr_types.specs.declared.item.Item.{Item}
use Rattle.clr_types.proofs.ChangedLists.{append_left, into_filter, IsIn-map}
use Rattle.clr_types.proofs.ListMembers.{append_right}
use Rattle.clr_types.proofs.RisingLists.{all_at}
use Rattle.clr_heap.specs.Memories.{HasWord, memory_index}
use Rattle.clr_heap.specs.Parts.{Among, item_at, item_part, items_in, Part, rest_part}
use Rattle.clr_heap.specs.View.{first_of, heap_items, HeapView, IsHeap, last_of, listing, listings, segment_at, word_of}
use Rattle.clr_heap.proofs.Addresses.{has_word, index_is_segment}
use Rattle.clr_heap.proofs.Framing.{lawful_at}
use Rattle.clr_view.specs.View.{IsHeld, is_object, object_in}
use Rattle.clr_view.specs.SlotValues.{StandsAt}
use Rattle.clr_view.proofs.Items.{IsItem, stacked-apart}
use Rattle.clr_view.proofs.Listed.{listed-in}
use Rattle.clr_view.proofs.Listings.{heap-cut, heap-stacked, listing-are}
use Rattle.clr_view.proofs.ObjectItems.{stands-item}

-- an item among parts is one of their items
pub among_listed : (ps : List Part) (i : Item) → Among ps (item_part i) → IsIn i (items_in ps)
among_listed [] i k = absurd k
among_listed (item_part j ∷ ps) i k = elim k [
  | inl here ↦ let same : j ≡ i = cc in subst (λ (x : Item). IsIn x (j ∷ items_in ps)) same first
  | inr more ↦ later (among_listed ps i more)
]
among_listed (rest_part low high ∷ ps) i k = elim k [
  | inl here ↦ absurd cc
  | inr more ↦ among_listed ps i more
]

-- an item of a segment is one of the heap's
pub listed_from : (rows : List TypeRow) (h : HeapView) (k : ℕ) (i : Item) → k < length h.segments
    → IsIn i (listing rows h k) → IsIn i (heap_items rows h)
listed_from rows h k i l m =
    let rest = listings rows h (k + 1) (length h.segments - (k + 1)) in
    subst (λ (is : List Item). IsIn i is) (sym (heap-cut rows h k (length h.segments) l))
    (append_right (listings rows h 0 k) (append_left rest m))

-- an item that isn't free is an object that stands at its place
pub stands_from : (rows : List TypeRow) (h : HeapView) (i : Item) → IsIn i (heap_items rows h) → is_object i ≡ true
    → StandsAt rows h i.place
stands_from rows h i l o = (
  object_in rows (word_of h) i,
  IsIn-map (object_in rows (word_of h))
      (into_filter is_object (heap_items rows h) o l),
  refl,
)

-- what is known of an item of the heap: its segment, and its bounds
pub record Standing (rows : List TypeRow) (h : HeapView) (i : Item) : Type 0 where
  pub segment : ℕ
  pub in_range : segment < length h.segments
  pub listed : IsIn i (listing rows h segment)
  pub aligned : i.place % 8 ≡ 0
  pub least : 24 ≤ i.size
  pub above : first_of h segment ≤ i.place
  pub below : i.place + i.size ≤ last_of h segment
  pub reserved : last_of h segment ≤ reserved_end (segment_at h segment)

-- a word of an item's cell
pub record InCell (i : Item) (a : ℕ) : Type 0 where
  pub aligned : a % 8 ≡ 0
  pub low : i.place ≤ a + 8
  pub high : a + 8 < i.place + i.size

module _ (rows : List TypeRow) (h : HeapView) (heap : IsHeap h) (held : IsHeld rows h) where
  pub standing : (i : Item) → IsIn i (heap_items rows h) → Standing rows h i
  standing i l =
      let home = listed-in rows h i 0 (length h.segments) l in
      let inside : home.0 < length h.segments = let b = home.1 in omega arith in
      let is = all_at (IsItem rows (first_of h home.0) (last_of h home.0)) home.2
      (listing-are rows h held.walkable home.0 inside) in
      record {
        segment = home.0;
        in_range = inside;
        listed = home.2;
        aligned = is.aligned;
        least = is.least;
        above = is.above;
        below = is.below;
        reserved = (lawful_at h home.0 heap inside).high;
      }

  -- an item stands well above address 0
  pub high_up : (i : Item) → IsIn i (heap_items rows h) → 4096 ≤ i.place
  high_up i l = let s = standing i l in let up = s.above in omega arith

  -- THE KEY FACT: no object starts inside another item's cell
  pub none_inside : (i : Item) (a : ℕ) → IsIn i (heap_items rows h) → InCell i a → a ≢ i.place → StandsAt rows h a → ⊥
  none_inside i a l c ne stands =
      let j = item_at rows (word_of h) a in
      let at = stands-item rows h heap held a stands in
      let there = standing j at.listed in
      let least = there.least in
      let place = at.at in
      let low = c.low in
      let high = c.high in
      elim (stacked-apart (heap_items rows h) i j (heap-stacked rows h held.walkable heap) l at.listed
      (λ e. ne (sym place ∙ sym e))) [
        | inl before ↦ omega arith
        | inr after ↦ omega arith
      ]

  -- the words of a cell can be read and written
  module _ (i : Item) (a : ℕ) (l : IsIn i (heap_items rows h)) (c : InCell i a) where
    abbrev place : Standing rows h i
    place = standing i l

    pub cell_has : HasWord h.memories a
    cell_has =
        let low = c.low in
        let high = c.high in
        let up = place.above in
        let down = place.below in
        let all = place.reserved in
        has_word h place.segment a heap place.in_range (omega arith) c.aligned (omega arith)

    -- in the segment where the item stands
    pub cell_index : memory_index h.memories a ≡ place.segment
    cell_index =
        let low = c.low in
        let high = c.high in
        let up = place.above in
        let down = place.below in
        let all = place.reserved in
        index_is_segment h place.segment a heap place.in_range (omega arith) (omega arith)

  -- the two words of a head are in the cell
  pub mt_in : (i : Item) → IsIn i (heap_items rows h) → InCell i i.place
  mt_in i l = let s = standing i l in let least = s.least in record {
    aligned = s.aligned;
    low = omega arith;
    high = omega arith;
  }

  pub len_in : (i : Item) → IsIn i (heap_items rows h) → InCell i (i.place + 8)
  len_in i l = let s = standing i l in let least = s.least in let z = s.aligned in record {
    aligned = omega arith;
    low = omega arith;
    high = omega arith;
  }
