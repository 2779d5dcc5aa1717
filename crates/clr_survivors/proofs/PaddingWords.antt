-- Padding of objects holds no reference, and no other object starts inside of an item.
use Rattle.std.proofs.Common.{◌≡◌, inl, inr, ℕ, zero, suc, ◌+◌, ◌-◌, ◌%◌, ◌<◌, ◌≤◌, ◌==◌, true}
use Rattle.std.proofs.Common.{false, List}
use Rattle.std.proofs.Common.{refl, ap, sym, ◌∙◌, subst, arith, Some, length}
use Rattle.std.specs.Prelude.{slice_get}
use Rattle.std.proofs.lemmas.Bool.{cases_Bool, cases_eq, eqb-true}
use Rattle.std.proofs.lemmas.Option.{slice_get_within}
use Rattle.clr_types.specs.Rising.{IsIn}
use Rattle.clr_types.specs.Types.{bytes_form, class_form, Form, form_at, is_bytes, references_form, size_of, slot_kinds}
use Rattle.clr_types.specs.Types.{structs_form, TypeRow}
use Rattle.clr_types.specs.declared.item.Item.{Item}
use Rattle.clr_types.proofs.ChangedLists.{out_of_filter}
use Rattle.clr_types.proofs.ListMembers.{any-in, in_append, rising_same}
use Rattle.clr_types.proofs.Offsets.{inside_law}
use Rattle.clr_types.proofs.RisingLists.{all_at}
use Rattle.clr_types.proofs.SlotKinds.{byte_kind}
use Rattle.clr_heap.specs.Memories.{word_address}
use Rattle.clr_heap.specs.Parts.{item_at}
use Rattle.clr_heap.specs.View.{heap_items, HeapView, IsHeap, listing, word_of}
use Rattle.clr_view.specs.Clean.{slots_end}
use Rattle.clr_view.specs.SlotValues.{StandsAt}
use Rattle.clr_view.specs.View.{IsHeld}
use Rattle.clr_view.proofs.Items.{stacked-apart}
use Rattle.clr_view.proofs.Listed.{listed-item, listed-sized}
use Rattle.clr_view.proofs.Listings.{heap-rise, heap-stacked}
use Rattle.clr_view.proofs.ObjectItems.{stands-item}
use Rattle.clr_view.proofs.Padding.{padding-word, slot-below-padding}
use Rattle.clr_view.proofs.Standing.{listed_from}
use Rattle.clr_scan.proofs.SlotScans.{slot_number}
use Rattle.clr_moves.specs.declared.condemned.Condemned.{Condemned}
use Rattle.clr_reloc.specs.References.{is_reference_at, keeps, leads_to, limit_of, references_of, staying_items}

-- a slot that is a reference is none of an array of bytes
reference_words : (form : Form) (len n : ℕ) → slice_get (slot_kinds form len) n ≡ Some true → is_bytes form ≡ false
reference_words (class_form pattern) len n e = refl
reference_words references_form len n e = refl
reference_words bytes_form len n e =
    let below = slice_get_within (slot_kinds bytes_form len) n true e in
    let off : Some true ≡ Some false = sym e ∙ byte_kind bytes_form len n refl below in
    absurd cc
reference_words (structs_form pattern) len n e = refl

module _ (rows : List TypeRow) (h : HeapView) (heap : IsHeap h) (held : IsHeld rows h) where
  -- a place is in one item
  pub only-item : (i j : Item) (x : ℕ) → IsIn i (heap_items rows h) → IsIn j (heap_items rows h) → i.place ≤ x
      → x < i.place + i.size → j.place ≤ x → x < j.place + j.size → i ≡ j
  only-item i j x l n low high low_j high_j =
      elim (cases_eq i.place j.place) [
        | inl same ↦ rising_same (λ (i : Item). i.place) (heap_items rows h) i j (heap-rise rows h held.walkable heap)
            l n same
        | inr differ ↦ elim (stacked-apart (heap_items rows h) i j (heap-stacked rows h held.walkable heap) l n differ)
            [ inl y ↦ absurd (omega arith) | inr y ↦ absurd (omega arith) ]
      ]

  -- no object starts inside of an item
  pub none-starts : (i : Item) (x : ℕ) → IsIn i (heap_items rows h) → i.place < x → x < i.place + i.size
      → StandsAt rows h x → ⊥
  none-starts i x l low high stands =
      let j = item_at rows (word_of h) x in
      let at = stands-item rows h heap held x stands in
      let place = at.at in
      let least = (listed-item rows h j heap held at.listed).least in
      let same = only-item i j x l at.listed (omega arith) high (omega arith) (omega arith) in
      let equal = ap (λ (k : Item). k.place) same in
      omega (arith, equal, place, low)

  staying-listed : (g : Condemned) (n : ℕ) → n ≤ length h.segments → (i : Item) → IsIn i (staying_items rows h g n)
      → IsIn i (heap_items rows h)
  staying-listed g zero most i l = elim l [ ]
  staying-listed g (suc n) most i l = elim (in_append (staying_items rows h g n) l) [
    | inl before ↦ staying-listed g n (omega (arith, most)) i before
    | inr here ↦
        listed_from rows h n i (omega (arith, most))
        (out_of_filter (keeps (word_of h) (limit_of h g n)) i (listing rows h n) here).1
  ]

  -- PADDING holds no reference
  pub no-reference : (g : Condemned) (j : Item) (a : ℕ) → IsIn j (heap_items rows h)
      → j.place + slots_end (form_at rows j.type_id.0) j.len ≤ a → a < j.place + j.size - 8
      → is_reference_at rows (staying_items rows h g (length h.segments)) (word_address a) ≡ false
  no-reference g j a l low high =
      elim (cases_Bool (is_reference_at rows (staying_items rows h g (length h.segments)) (word_address a))) [
        | inr off ↦ off
        | inl on ↦
            let (i, n, leads) =
            any-in (λ (i : Item). leads_to i.place (references_of rows i) (word_address a))
            (staying_items rows h g (length h.segments)) on in
            let (offset, r, here) =
            any-in (λ offset. (i.place + offset) == word_address a) (references_of rows i) leads in
            let at = eqb-true (i.place + offset) (word_address a) here in
            let listed = staying-listed g (length h.segments) (omega arith) i n in
            let bounds = all_at
            (λ n. (8 ≤ n) × (n + 16 ≤ size_of (form_at rows i.type_id.0) i.len) × (n % 8 ≡ 0)) r
            (inside_law (form_at rows i.type_id.0) i.len) in
            let least = bounds.0 in
            let most = bounds.1 in
            let size_i = listed-sized rows h i heap held listed in
            let size_j = listed-sized rows h j heap held l in
            let aligned = (listed-item rows h j heap held l).aligned in
            let word = padding-word (form_at rows j.type_id.0) j.len j.place a aligned low
            (omega (arith, high, size_j)) in
            let above = word.above in
            let below = word.below in
            let same = only-item i j (word_address a) listed l (omega (arith, at)) (omega (arith, at, most, size_i))
            (omega (arith, above)) (omega (arith, below, size_j)) in
            absurd (clash offset i.place at (subst (λ (k : Item). IsIn offset (references_of rows k)) same r)
            (ap (λ (k : Item). k.place) same) aligned)
      ]
    where
      clash : (offset p : ℕ) → p + offset ≡ word_address a → IsIn offset (references_of rows j) → p ≡ j.place
          → j.place % 8 ≡ 0 → ⊥
      clash offset p at r same aligned =
          let form = form_at rows j.type_id.0 in
          let (n, number) = slot_number form j.len offset r in
          let under = slot-below-padding form j.len j.place n a aligned (reference_words form j.len n number.kind)
          number.below low in
          let is = number.offset_is in
          omega (arith, at, same, under, is)
