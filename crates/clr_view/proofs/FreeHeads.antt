-- The heads of free items stay as they are where an object is born, where a slot is written, and where a type is
-- defined.
use Rattle.std.proofs.Common.{◌≡◌, ◌≢◌, ◌⊎◌, inl, inr, ℕ, ◌+◌, ◌-◌, ◌%◌, ◌≤◌, not, true, List, [], ◌∷◌, ◌++◌, filter}
use Rattle.std.proofs.Common.{ap, sym, ◌∙◌, subst, arith}
use Rattle.std.proofs.lemmas.Bool.{cases_eq, true≢false}
use Rattle.clr_types.specs.Ranges.{Piece}
use Rattle.clr_types.specs.Rising.{IsIn}
use Rattle.clr_types.specs.Segments.{Layout}
use Rattle.clr_types.specs.Types.{TypeRow}
use Rattle.clr_types.specs.declared.item.Item.{Item}
use Rattle.clr_types.proofs.ChangedLists.{into_filter, IsIn-map, out_of_filter, rising-distinct}
use Rattle.clr_types.proofs.ListMembers.{from-map}
use Rattle.clr_types.proofs.RisingLists.{in_cons}
use Rattle.clr_types.proofs.SortedLists.{same_by_key}
use Rattle.clr_heap.specs.Parts.{item_at, item_piece}
use Rattle.clr_heap.specs.View.{frame, HeapView, heap_items, IsHeap, opening_heap, placed, stored, word_of}
use Rattle.clr_heap.proofs.Placing.{Placed, placed_leaves}
use Rattle.clr_model.specs.Allocation.{context_front}
use Rattle.clr_view.specs.View.{AreFreeHeads, free_in, HaveFreeHeads, is_free, IsFreeHead, IsHeld, is_object}
use Rattle.clr_view.proofs.Bearing.{born-stands, IsBirth}
use Rattle.clr_view.proofs.Items.{stacked-apart}
use Rattle.clr_view.proofs.Listed.{in_append, listed-head, listed-spelled}
use Rattle.clr_view.proofs.Listings.{heap-rise, heap-stacked}
use Rattle.clr_view.proofs.ObjectItems.{stands-head, stands-item}
use Rattle.clr_view.proofs.Opening.{items-none}
use Rattle.clr_view.proofs.Stores.{elsewhere, IsCellWord, items-stay}
use Rattle.clr_view.proofs.TypeMore as more

-- a free head whose two words stay
pub head_stays : (old new : ℕ → ℕ) (place : ℕ) → new (place - 8) ≡ old (place - 8) → new place ≡ old place
    → IsFreeHead old place → IsFreeHead new place
head_stays old new place header mt head = (header ∙ head.0, mt ∙ head.1)

-- ---- lists

-- no items have no heads
pub heads_none : (word : ℕ → ℕ) → HaveFreeHeads word []
heads_none word i l free = elim l [ ]

pub heads_one : (word : ℕ → ℕ) (i : Item) → IsFreeHead word i.place → HaveFreeHeads word (i ∷ [])
heads_one word i head j l free = elim (in_cons l) [
  | inl here ↦ subst (λ (x : Item). IsFreeHead word x.place) (sym here) head
  | inr none ↦ elim none [ ]
]

pub heads_joined : (word : ℕ → ℕ) (xs ys : List Item) → HaveFreeHeads word xs → HaveFreeHeads word ys
    → HaveFreeHeads word (xs ++ ys)
heads_joined word xs ys h k i l free =
    elim (in_append i xs ys l) [ inl here ↦ h i here free | inr there ↦ k i there free ]

-- ---- ranges

-- what is said of the heads of free items holds of those of free ranges
pub range_heads : (rows : List TypeRow) (h : HeapView) → AreFreeHeads rows h → (p : Piece) → IsIn p (free_in rows h)
    → IsFreeHead (word_of h) p.place
range_heads rows h heads p l =
    let (i, is, m) = from-map item_piece p (filter is_free (heap_items rows h)) l in
    let (free, listed) = out_of_filter is_free i (heap_items rows h) m in
    subst (IsFreeHead (word_of h)) (sym (ap (λ (q : Piece). q.place) is)) (heads i listed free)

-- where the free ranges stay, and the words of their heads
pub heads_kept : (rows : List TypeRow) (old new : HeapView) → free_in rows new ≡ free_in rows old
    → ((i : Item) → IsIn i (heap_items rows new) → is_free i ≡ true
    → (word_of new (i.place - 8) ≡ word_of old (i.place - 8)) × (word_of new i.place ≡ word_of old i.place))
    → AreFreeHeads rows old → AreFreeHeads rows new
heads_kept rows old new same words heads i listed free =
    let there : IsIn (item_piece i) (free_in rows old) =
    subst (IsIn (item_piece i)) same (IsIn-map item_piece (into_filter is_free (heap_items rows new) free listed)) in
    let (header, mt) = words i listed free in
    head_stays (word_of old) (word_of new) i.place header mt (range_heads rows old heads (item_piece i) there)

-- where an item's head stands, and how much room it takes
pub listed_room : (rows : List TypeRow) (h : HeapView) → IsHeap h → IsHeld rows h → (i : Item)
    → IsIn i (heap_items rows h) → (i.place % 8 ≡ 0) × (24 ≤ i.size)
listed_room rows h heap held i listed =
    let head = listed-head rows h i heap held listed in
    let spelled = ap (λ (x : Item). x.size) (listed-spelled rows h i heap held listed).0 in
    let least = head.names.least in
    (head.mt.aligned, omega (arith, spelled, least))

-- ---- births

module _ (rows : List TypeRow) (old new : HeapView) (thread t n : ℕ) (birth : IsBirth rows old new thread t n) where
  open birth use {after, born, head, words}

  abbrev front : ℕ
  front = context_front (frame old) thread

  -- a free item keeps 24 bytes apart from the new object
  apart-born : (i : Item) → IsIn i (heap_items rows new) → is_free i ≡ true
      → (i.place + 24 ≤ front) ⊎ (front + 24 ≤ i.place)
  apart-born i listed free =
      let stands = born-stands rows old new thread t n born in
      let b = stands-item rows new after born.held front stands in
      let x = item_at rows (word_of new) front in
      let at = b.at in
      let room = listed_room rows new after born.held i listed in
      let least = (stands-head rows new after born.held front stands).names.least in
      let distinct =
      rising-distinct (λ (y : Item). y.place) (heap_items rows new) (heap-rise rows new born.held.walkable after) in
      let ne : i.place ≢ x.place = λ e.
      let same : i ≡ x = same_by_key (λ (y : Item). y.place) (heap_items rows new) i x distinct listed b.listed e in
      true≢false (sym b.object ∙ ap is_object (sym same) ∙ ap not free) in
      elim (stacked-apart (heap_items rows new) i x (heap-stacked rows new born.held.walkable after) listed b.listed
      ne) [
        | inl under ↦ inl (omega (arith, under, at, room))
        | inr over ↦ inr (omega (arith, over, at, least))
      ]

  -- A BIRTH changes no free item's head
  pub heads_born : AreFreeHeads rows old → AreFreeHeads rows new
  heads_born = heads_kept rows old new (ap (λ (l : Layout). l.free) born.layout) (λ i listed free.
      let z = (listed_room rows new after born.held i listed).0 in
      let above = head.above in
      let stays : (b : ℕ) → b % 8 ≡ 0 → b ≢ front - 8 → b ≢ front → b ≢ front + 8 → word_of new b ≡ word_of old b =
      λ b zb header mt len. ap (λ (g : HeapView). word_of g b) words ∙ leaves.others b zb header mt len in
      elim (apart-born i listed free) [
        | inl under ↦ (
          stays (i.place - 8) (omega arith) (λ e. omega arith) (λ e. omega arith) (λ e. omega arith),
          stays
              i.place z (λ e. omega arith) (λ e. omega arith) (λ e. omega arith),
        )
        | inr over ↦ (
          stays (i.place - 8) (omega arith) (λ e. omega arith) (λ e. omega arith) (λ e. omega arith),
          stays
              i.place z (λ e. omega arith) (λ e. omega arith) (λ e. omega arith),
        )
      ])
    where
      leaves : Placed rows old (placed rows old front t n) front t n
      leaves = placed_leaves rows old front t n head

-- ---- stores

module _ (rows : List TypeRow) (h : HeapView) (i : Item) (a v : ℕ) (heap : IsHeap h) (held : IsHeld rows h)
    (slot : IsCellWord rows h i a) where
  -- the word is no item's method table word
  pub outside-mt : (x : Item) → IsIn x (heap_items rows h) → x.place ≢ a
  outside-mt x listed =
      let low = slot.low in
      let high = slot.high in
      let no_mt = slot.no_mt in
      let least = (listed_room rows h heap held x listed).1 in
      elim (cases_eq x.place i.place) [
        | inl own ↦ λ e. no_mt (sym e ∙ own)
        | inr other ↦ elim (stacked-apart (heap_items rows h) x i (heap-stacked rows h held.walkable heap) listed
            slot.listed other) [ inl under ↦ λ e. omega arith | inr over ↦ λ e. omega arith ]
      ]

  -- and no other item's header
  pub outside-header : (x : Item) → IsIn x (heap_items rows h) → x.place ≢ i.place ⊎ (i.place + 8 ≤ a)
      → x.place - 8 ≢ a
  outside-header x listed apart =
      let low = slot.low in
      let high = slot.high in
      let room = listed_room rows h heap held x listed in
      elim (cases_eq x.place i.place) [
        | inl own ↦ elim apart [ inl other ↦ absurd (other own) | inr above ↦ λ e. omega arith ]
        | inr other ↦ elim (stacked-apart (heap_items rows h) x i (heap-stacked rows h held.walkable heap) listed
            slot.listed other) [ inl under ↦ λ e. omega arith | inr over ↦ λ e. omega arith ]
      ]

  -- A STORE into an object's cell, or behind a head, changes no free item's head
  pub heads_stored : is_object i ≡ true ⊎ (i.place + 8 ≤ a) → AreFreeHeads rows h → AreFreeHeads rows (stored h a v)
  heads_stored own heads x listed free =
      let there = subst (IsIn x) (items-stay rows h i a v heap held slot) listed in
      let z = (listed_room rows h heap held x there).0 in
      let stays = elsewhere rows h i a v heap held slot in
      head_stays (word_of h) (word_of (stored h a v)) x.place
      (stays (x.place - 8) (omega arith) (outside-header x there (elim own [
        | inl object ↦ inl (λ same. apart object (sym free) same there)
        | inr above ↦ inr above
      ]))) (stays x.place z (outside-mt x there)) (heads x there free)
    where
      apart : is_object i ≡ true → true ≡ is_free x → x.place ≡ i.place → IsIn x (heap_items rows h) → ⊥
      apart object free same there =
          let distinct =
          rising-distinct (λ (y : Item). y.place) (heap_items rows h) (heap-rise rows h held.walkable heap) in
          let one : i ≡ x = same_by_key (λ (y : Item). y.place) (heap_items rows h) i x distinct slot.listed there
          (sym same) in
          true≢false (sym object ∙ ap is_object one ∙ ap not (sym free))

-- ---- types

-- a type more changes no head
pub heads_with_type : (rows : List TypeRow) (row : TypeRow) (h : HeapView) → IsHeld rows h → AreFreeHeads rows h
    → AreFreeHeads (rows ++ row ∷ []) h
heads_with_type rows row h held heads i listed free =
    heads i (subst (IsIn i) (more.items-stay rows row h held.walkable) listed) free

-- ---- the opening_heap

-- where no item stands none is free
pub heads_at_start : (rows : List TypeRow) (segment limit : ℕ) → segment % 4096 ≡ 0
    → AreFreeHeads rows (opening_heap segment limit)
heads_at_start rows segment limit aligned i listed free =
    let none : IsIn i [] = subst (IsIn i) (items-none rows segment limit aligned) listed in
    elim none [ ]
