-- The cells of items, and the references and headers that stand in them.
use Rattle.std.proofs.Common.{◌≡◌, inl, inr, ℕ, ◌+◌, ◌-◌, ◌%◌, ◌≤◌, true, not, List, filter, ap, sym}
use Rattle.std.proofs.Common.{◌∙◌, subst, arith, Some, refl, suc, []}
use Rattle.std.proofs.Common.{◌∷◌}
use Rattle.std.specs.Prelude.{slice_get}
use Rattle.std.proofs.lemmas.Bool.{cases_eq, true≢false}
use Rattle.clr_types.specs.Rising.{first, IsIn, later}
use Rattle.clr_types.specs.Types.{form_at, size_of, slots_of, TypeRow}
use Rattle.clr_types.specs.declared.item.Item.{Item}
use Rattle.clr_types.specs.declared.shape.Slot.{Slot}
use Rattle.clr_types.proofs.ChangedLists.{out_of_filter, rising-distinct}
use Rattle.clr_types.proofs.ListMembers.{from-map}
use Rattle.clr_types.proofs.Offsets.{inside_law}
use Rattle.clr_types.proofs.RisingLists.{all_at}
use Rattle.clr_types.proofs.SortedLists.{same_by_key}
use Rattle.clr_heap.specs.View.{heap_items, HeapView, IsHeap}
use Rattle.clr_mark.specs.Markings.{item_references}
use Rattle.clr_mark.proofs.References as references
use Rattle.clr_view.specs.SlotValues.{HasSlot}
use Rattle.clr_view.specs.View.{is_free, is_object, IsHeld}
use Rattle.clr_view.proofs.Items.{stacked-apart}
use Rattle.clr_view.proofs.Listings.{heap-rise, heap-stacked}
use Rattle.clr_view.proofs.Standing.{high_up, InCell, standing}
use Rattle.clr_evacuate.specs.Forwarding.{IsOffsetOf, IsReferenceAt}

-- a member of a list has a number
pub in_get : {X : Type 0} (xs : List X) (x : X) → IsIn x xs → (j : ℕ) × (slice_get xs j ≡ Some x)
in_get [] x i = elim i [ ]
in_get (y ∷ xs) x first = (0, refl)
in_get (y ∷ xs) x (later i) = let (j, e) = in_get xs x i in (suc j, e)

-- the slot at an offset of a reference
abbrev pub reference_at : ℕ → Slot
reference_at offset = record { offset = offset; reference = true }

pub reference_slot : (rows : List TypeRow) (i : Item) (offset : ℕ) → IsIn offset (item_references rows i)
    → HasSlot rows i (reference_at offset)
reference_slot rows i offset l =
    let slots = slots_of (form_at rows i.type_id.0) i.len in
    let (s, at, m) = from-map (λ (s : Slot). s.offset) offset (filter (λ (s : Slot). s.reference) slots) l in
    let (on, listed) = out_of_filter (λ (s : Slot). s.reference) s slots m in
    let is : s ≡ reference_at offset = λ k. record { offset = sym at k; reference = on k } in
    let (j, e) = in_get slots s listed in
    record { number = j; is = e ∙ ap (λ (t : Slot). Some t) is }

module _ (rows : List TypeRow) (h : HeapView) (heap : IsHeap h) (held : IsHeld rows h) where
  -- a word is of one cell
  pub one_cell : (i j : Item) (a : ℕ) → IsIn i (heap_items rows h) → IsIn j (heap_items rows h) → InCell i a
      → InCell j a → i ≡ j
  one_cell i j a l m c d = elim (cases_eq i.place j.place) [
    | inl same ↦ same_by_key (λ (x : Item). x.place) (heap_items rows h) i j
        (rising-distinct (λ (x : Item). x.place) (heap_items rows h) (heap-rise rows h held.walkable heap)) l m same
    | inr apart ↦
        let low = c.low in
        let high = c.high in
        let low2 = d.low in
        let high2 = d.high in
        elim (stacked-apart (heap_items rows h) i j (heap-stacked rows h held.walkable heap) l m apart) [
          | inl under ↦ absurd (omega (arith, high, low2, under))
          | inr over ↦ absurd (omega (arith, high2, low, over))
        ]
  ]

  -- the header is in the cell
  pub header_in : (i : Item) → IsIn i (heap_items rows h) → InCell i (i.place - 8)
  header_in i l =
      let s = standing rows h heap held i l in
      let up = high_up rows h heap held i l in
      let z = s.aligned in
      let least = s.least in
      record { aligned = omega (arith, z, up); low = omega (arith, up); high = omega (arith, up, least) }

  -- a reference is in its object's cell, behind the method table word
  pub reference_in : (i : Item) (a : ℕ) → IsIn i (heap_items rows h)
      → IsOffsetOf i.place (item_references rows i) a → InCell i a × (i.place + 8 ≤ a)
  reference_in i a l r =
      let in_cell = references.reference_in rows h heap held i.place i l refl r.offset r.listed in
      let b = all_at (λ (n : ℕ). (8 ≤ n) × (n + 16 ≤ size_of (form_at rows i.type_id.0) i.len) × (n % 8 ≡ 0)) r.listed
      (inside_law (form_at rows i.type_id.0) i.len) in
      let low = b.0 in
      let address = r.address in
      (subst (InCell i) (sym r.address) in_cell, omega (arith, low, address))

  -- a reference in the cell of an item is that item's
  pub own_reference : (i : Item) (a : ℕ) → IsIn i (heap_items rows h) → InCell i a
      → (r : IsReferenceAt rows (heap_items rows h) a) → r.item ≡ i
  own_reference i a l c r =
      one_cell r.item i a r.listed l (reference_in r.item a r.listed r.reference).0 c

  -- so no reference stands at a header or a method table word
  pub not_in_head : (i : Item) (a : ℕ) → IsIn i (heap_items rows h) → InCell i a → a ≤ i.place
      → IsReferenceAt rows (heap_items rows h) a → ⊥
  not_in_head i a l c low r =
      let same = own_reference i a l c r in
      let above = (reference_in r.item a r.listed r.reference).1 in
      let place = ap (λ (x : Item). x.place) same in
      omega (arith, above, place, low)

  -- nor in a free item
  pub not_in_free : (i : Item) (a : ℕ) → IsIn i (heap_items rows h) → InCell i a → is_free i ≡ true
      → IsReferenceAt rows (heap_items rows h) a → ⊥
  not_in_free i a l c free r =
      let same = own_reference i a l c r in
      true≢false (sym r.object ∙ ap is_object same ∙ ap not free)
