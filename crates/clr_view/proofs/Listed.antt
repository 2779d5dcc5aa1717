-- Where an item that the heap lists stands, and what its words spell.
use Rattle.std.proofs.Common.{◌≡◌, ◌⊎◌, inl, inr, ℕ, zero, suc, ◌+◌, ◌^◌, ◌<◌, ◌≤◌, List, [], ◌∷◌, ◌++◌, length, ap}
use Rattle.std.proofs.Common.{sym, ◌∙◌, subst, arith}
use Rattle.clr_types.specs.Rising.{first, IsIn, later}
use Rattle.clr_types.specs.Types.{TypeRow, form_at, size_of}
use Rattle.clr_types.specs.declared.item.Item.{Item}
use Rattle.clr_types.proofs.RisingLists.{all_at, in_cons}
use Rattle.clr_heap.specs.Parts.{Among, item_at, item_part, items_in, NamesItem, Part, rest_part, Sight, Spells}
use Rattle.clr_heap.specs.Parts.{type_number}
use Rattle.clr_heap.specs.Memories.{HasWord}
use Rattle.clr_heap.specs.View.{first_of, HasItem, heap_items, HeapView, IsHeap, last_of, listing, listings, parts_of}
use Rattle.clr_heap.specs.View.{sight, word_of}
use Rattle.clr_heap.proofs.Framing.{below_top_at, lawful_at}
use Rattle.clr_heap.proofs.Writing.{words_of_item}
use Rattle.clr_view.specs.View.{IsHeld}
use Rattle.clr_view.proofs.Items.{IsItem}
use Rattle.clr_view.proofs.Listings.{listing-are}

pub in_append : {X : Type 0} (x : X) (xs ys : List X) → IsIn x (xs ++ ys) → IsIn x xs ⊎ IsIn x ys
in_append x [] ys m = inr m
in_append x (y ∷ xs) ys m = elim (in_cons m) [
  | inl here ↦ inl (subst (λ z. IsIn x (z ∷ xs)) here first)
  | inr more ↦ elim (in_append x xs ys more) [ inl l ↦ inl (later l) | inr r ↦ inr r ]
]

-- an item of the heap is one of a segment
pub listed-in : (rows : List TypeRow) (h : HeapView) (i : Item) (s m : ℕ) → IsIn i (listings rows h s m)
    → (k : ℕ) × (k < s + m) × IsIn i (listing rows h k)
listed-in rows h i s zero l = elim l [ ]
listed-in rows h i s (suc m) l = elim (in_append i (listing rows h s) (listings rows h (s + 1) m) l) [
  | inl here ↦ (s, omega arith, here)
  | inr more ↦ let found = listed-in rows h i (s + 1) m more in let low = found.1 in (found.0, omega arith, found.2)
]

pub part-among : (ps : List Part) (i : Item) → IsIn i (items_in ps) → Among ps (item_part i)
part-among [] i l = elim l [ ]
part-among (item_part j ∷ ps) i l =
    elim (in_cons l) [ inl here ↦ inl (ap item_part here) | inr more ↦ inr (part-among ps i more) ]
part-among (rest_part low high ∷ ps) i l = inr (part-among ps i l)

-- its words spell it
pub item-spelled : (s : Sight) (ps : List Part) (i : Item) (p e : ℕ) → Spells s p ps e → IsIn i (items_in ps)
    → (i ≡ item_at s.rows s.word i.place) × NamesItem s.rows s.word i.place
unfolding item_at
item-spelled s [] i p e h l = elim l [ ]
item-spelled s (item_part j ∷ ps) i p e h l = elim (in_cons l) [
  | inl here ↦
      let is : i ≡ item_at s.rows s.word p = here ∙ h.1 in
      let at : i.place ≡ p = ap (λ (x : Item). x.place) is in
      (is ∙ ap (item_at s.rows s.word) (sym at), subst (NamesItem s.rows s.word) (sym at) h.2)
  | inr more ↦ item-spelled s ps i (p + j.size) e h.3 more
]
item-spelled s (rest_part low high ∷ ps) i p e h l = item-spelled s ps i high e h.4 l

-- and name its type
pub type-named : (s : Sight) (ps : List Part) (i : Item) (p e : ℕ) → Spells s p ps e → IsIn i (items_in ps)
    → type_number (s.word i.place) ≡ i.type_id.0
unfolding item_at
type-named s ps i p e h l = sym (ap (λ (x : Item). x.type_id.0) (item-spelled s ps i p e h l).0)

-- ---- in a heap

module _ (rows : List TypeRow) (h : HeapView) (i : Item) (heap : IsHeap h) (held : IsHeld rows h)
    (listed : IsIn i (heap_items rows h)) where
  abbrev home : (k : ℕ) × (k < 0 + length h.segments) × IsIn i (listing rows h k)
  home = listed-in rows h i 0 (length h.segments) listed

  abbrev k : ℕ
  k = home.0

  in_range : k < length h.segments
  in_range = let l = home.1 in omega arith

  -- it stands in its segment
  item-is : IsItem rows (first_of h k) (last_of h k) i
  item-is = all_at (IsItem rows (first_of h k) (last_of h k)) home.2 (listing-are rows h held.walkable k in_range)

  -- in the bounds of its own cell, which don't begin below 8
  pub listed-item : IsItem rows i.place (i.place + i.size) i
  listed-item =
      let is = item-is in
      record {
        aligned = is.aligned;
        above = omega arith;
        below = omega arith;
        least = is.least;
        known = is.known;
        sized = is.sized;
        whole = is.whole;
      }

  pub listed-above : 8 ≤ i.place
  listed-above = let up = item-is.above in omega arith

  -- it is of a known type, and ends where addresses are still small
  pub listed-known : i.type_id.0 ≤ length rows
  listed-known = item-is.known

  pub listed-low : i.place + i.size ≤ 2 ^ 62
  listed-low =
      let lawful = lawful_at h k heap in_range in
      let end = lawful.high in
      let top = below_top_at h k heap in_range in
      let small = heap.top_small in
      let below = item-is.below in
      omega arith

  -- its words spell it
  pub listed-spelled : (i ≡ item_at rows (word_of h) i.place) × NamesItem rows (word_of h) i.place
  listed-spelled =
      item-spelled (sight rows h k) (parts_of rows h k) i (first_of h k) (last_of h k)
      (held.walkable k in_range).spelled home.2

  -- and its head can be read
  pub listed-head : HasItem rows h i.place
  listed-head =
      let words = words_of_item rows h k i (held.walkable k in_range) (part-among (parts_of rows h k) i home.2) in
      record { names = listed-spelled.1; mt = words.0; len = words.1 }

  -- its size is that of its type and length, and no larger than the largest
  pub listed-sized : i.size ≡ size_of (form_at rows i.type_id.0) i.len
  listed-sized = item-is.sized

  pub listed-small : size_of (form_at rows i.type_id.0) i.len ≤ 1073741824
  listed-small =
      let sized = listed-sized in
      let same = ap (λ (x : Item). x.size) listed-spelled.0 in
      let most = listed-spelled.1.most in
      omega (arith, sized, same, most)

-- whether the heap is lawful or not, its method table word can be read
pub listed_word : (rows : List TypeRow) (h : HeapView) (i : Item) → IsHeld rows h → IsIn i (heap_items rows h)
    → HasWord h.memories i.place
listed_word rows h i held listed =
    let (k, in_range, there) = listed-in rows h i 0 (length h.segments) listed in
    (words_of_item rows h k i (held.walkable k (omega (arith, in_range))) (part-among (parts_of rows h k) i there)).0
