-- The parts of each segment where the marks are cleared: the same, and no other word changed.
use Rattle.std.proofs.Common.{◌≡◌, ◌≢◌, ℕ, ◌+◌, ◌%◌, ◌<◌, ◌≤◌, ◌⊎◌, inl, inr, Bool, true, false, List, [], ◌∷◌, length}
use Rattle.std.proofs.Common.{refl, sym, ap, ◌∙◌, subst, arith, if◌then◌else◌, Option}
use Rattle.std.proofs.lemmas.Bool.{cases_eq}
use Rattle.clr_types.specs.Rising.{first, IsIn, later}
use Rattle.clr_types.specs.Ranges.{Piece}
use Rattle.clr_types.specs.Types.{TypeRow}
use Rattle.clr_types.specs.declared.item.Item.{Item}
use Rattle.clr_types.proofs.RisingLists.{all_at}
use Rattle.clr_heap.specs.Parts.{item_part, items_in, Part, parts, rest_part, Sight, Spells, unmarked}
use Rattle.clr_compact.specs.Rewrites.{cleared, is_place, Rewrites}
use Rattle.clr_heap.specs.View.{AreWalkable, first_of, HasParts, heap_items, HeapView, IsHeap}
use Rattle.clr_heap.specs.View.{items_between, last_of, listing, parts_of, segment_at, SameShape, sight, word_of}
use Rattle.clr_heap.proofs.Rewrite.{has_parts, holes_same}
use Rattle.clr_heap.proofs.Spelling.{AgreesAt, AgreesOn, Spells-agrees, with_words}
use Rattle.clr_heap.proofs.Walking.{spelled_parts}
use Rattle.clr_view.proofs.Items.{IsItem, stacked-apart}
use Rattle.clr_view.proofs.Listed.{listed-in}
use Rattle.clr_view.proofs.Listings.{heap-stacked, listing-are}
use Rattle.clr_sweep.proofs.SurvivorsSwept.{listed-from}
use Rattle.clr_moves.specs.Moves.{part_of, takes}
use Rattle.clr_compact.specs.Compacted.{ArePartsWalkable, items_of_part, part_items}
use Rattle.clr_compact.proofs.AllParts.{part_items-from, part_items-in, place-on, place-out}
use Rattle.clr_moves.specs.declared.condemned.Condemned.{Condemned}

-- heads that stay on all items
pub agrees_all : (s : Sight) (w : ℕ → ℕ) (ps : List Part)
    → ((i : Item) → IsIn i (items_in ps) → AgreesAt s.rows s.word w i.place) → AgreesOn s w ps
agrees_all s w [] each = tt
agrees_all s w (item_part i ∷ ps) each = (each i first, agrees_all s w ps (λ j l. each j (later l)))
agrees_all s w (rest_part lo hi ∷ ps) each = agrees_all s w ps each

same_head : (b : Bool) (w : ℕ) → unmarked (if b then unmarked w else w) ≡ unmarked w
same_head true w = omega arith
same_head false w = refl

module _ (rows : List TypeRow) (mid clean : HeapView) (g : Condemned) (heap : IsHeap mid)
    (walkable : AreWalkable rows mid) (parts_walk : ArePartsWalkable rows mid g)
    (part_in : (t : ℕ) → t < length mid.segments → (i : Item) → IsIn i (items_of_part rows mid g t)
    → IsIn i (listing rows mid t)) (shape : SameShape mid clean)
    (words : Rewrites (cleared (part_items rows mid g (length mid.segments))) (word_of mid)
    (word_of clean)) where
  abbrev all : List Item
  all = part_items rows mid g (length mid.segments)

  in_heap : (i : Item) → IsIn i all → IsIn i (heap_items rows mid)
  in_heap i n = let (t, l, here) = part_items-in rows mid g heap parts_walk (length mid.segments) i n in
      listed-from rows mid t i l (part_in t l i here)

  standing_at : (i : Item) → IsIn i (heap_items rows mid)
      → (t : ℕ) × (t < length mid.segments) × IsItem rows (first_of mid t) (last_of mid t) i
  standing_at i n =
      let (t, l, here) = listed-in rows mid i 0 (length mid.segments) n in
      let inside : t < length mid.segments = omega arith in
      (t, inside, all_at (IsItem rows (first_of mid t) (last_of mid t)) here (listing-are rows mid walkable t inside))

  -- two items of the heap stand apart
  apart : (i j : Item) → IsIn i (heap_items rows mid) → IsIn j (heap_items rows mid) → i.place ≢ j.place
      → (i.place + i.size ≤ j.place) ⊎ (j.place + j.size ≤ i.place)
  apart i j n k ne = stacked-apart (heap_items rows mid) i j (heap-stacked rows mid walkable heap) n k ne

  -- no word of an item's cell is another item's method table word
  no_place : (i : Item) → IsIn i (heap_items rows mid) → (b : ℕ) → i.place ≤ b + 8 → b + 8 < i.place + i.size
      → b ≢ i.place → is_place all b ≡ false
  no_place i n b low high ne =
      place-out all b (λ j k at.
      let (t, inside, is) = standing_at j (in_heap j k) in
      let (u, inside_u, is_i) = standing_at i n in
      let least = is.least in
      let least_i = is_i.least in
      elim (cases_eq i.place j.place) [
        | inl same ↦ ne (sym at ∙ sym same)
        | inr differ ↦ elim (apart i j n (in_heap j k) differ) [ inl a ↦ omega arith | inr a ↦ omega arith ]
      ])

  pub word_kept : (i : Item) → IsIn i (heap_items rows mid) → (b : ℕ) → b % 8 ≡ 0 → i.place ≤ b + 8
      → b + 8 < i.place + i.size → b ≢ i.place → word_of clean b ≡ word_of mid b
  word_kept i n b z low high ne =
      words b z ∙ ap (λ t. if t then unmarked (word_of mid b) else word_of mid b) (no_place i n b low high ne)

  agrees : (i : Item) → IsIn i (heap_items rows mid) → AgreesAt rows (word_of mid) (word_of clean) i.place
  agrees i n =
      let (t, inside, is) = standing_at i n in
      let z = is.aligned in
      let least = is.least in
      record {
        mt = ap unmarked (words i.place z) ∙ same_head (is_place all i.place) (word_of mid i.place);
        len = λ _. word_kept i n (i.place + 8) (omega arith) (omega arith) (omega arith) (λ e. omega arith);
      }

  -- THE PARTS stay
  pub clean_parts : (t : ℕ) → t < length mid.segments → HasParts rows mid clean t (parts_of rows mid t)
  clean_parts t l =
      has_parts rows mid clean t (parts_of rows mid t) (walkable t l) shape
      (Spells-agrees (sight rows mid t) (word_of clean) (parts_of rows mid t) (first_of mid t) (last_of mid t)
      (agrees_all (sight rows mid t) (word_of clean) (parts_of rows mid t)
      (λ i n. agrees i (listed-from rows mid t i l n))) (walkable t l).spelled)

  -- and so do their items from where a part starts
  pub clean_items : (t : ℕ) → t < length mid.segments → takes g (segment_at mid t) ≡ true
      → items_between (sight rows clean t) (part_of mid g t) (last_of mid t)
      ≡ items_between (sight rows mid t) (part_of mid g t) (last_of mid t)
  clean_items t l on =
      let from = part_of mid g t in
      let end = last_of mid t in
      let ps = parts end (sight rows mid t) from end in
      let same : items_of_part rows mid g t ≡ items_in ps = ap (λ b. if b then items_in ps else []) on in
      let seen : sight rows clean t ≡ with_words (sight rows mid t) (word_of clean) =
      ap (λ (hs : List (Option Piece)). record { rows = rows; word = word_of clean; holes = hs })
      (holes_same mid clean t shape) in
      let spelled = Spells-agrees (sight rows mid t) (word_of clean) ps from end
      (agrees_all (sight rows mid t) (word_of clean) ps
      (λ i n. agrees i (listed-from rows mid t i l (part_in t l i (subst (IsIn i) (sym same) n)))))
      (parts_walk.walk t l on).spelled in
      ap items_in
      (spelled_parts (sight rows clean t) ps from end (subst (λ (s : Sight). Spells s from ps end) (sym seen) spelled))

  -- an item of a part carries no mark
  pub part_unmarked : (t : ℕ) → t < length mid.segments → (i : Item) → IsIn i (items_of_part rows mid g t)
      → i.place % 8 ≡ 0 → word_of clean i.place ≡ unmarked (word_of mid i.place)
  part_unmarked t l i n z =
      words i.place z ∙ ap (λ b. if b then unmarked (word_of mid i.place) else word_of mid i.place)
      (place-on all i (part_items-from rows mid g heap parts_walk (length mid.segments) t i l n))

  -- a word that is no method table word of a part's item stays
  pub word_stays : (b : ℕ) → b % 8 ≡ 0 → ((i : Item) → IsIn i all → i.place ≢ b) → word_of clean b ≡ word_of mid b
  word_stays b z none =
      words b z ∙ ap (λ t. if t then unmarked (word_of mid b) else word_of mid b) (place-out all b none)
