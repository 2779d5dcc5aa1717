-- What a heap that was read names is there.
use Rattle.std.proofs.Common.{◌≡◌, inl, inr, ℕ, zero, suc, ◌+◌, Bool, true, false, List, [], ◌∷◌, map, refl, ap}
use Rattle.std.proofs.Common.{sym, ◌∙◌, subst, IsTrue, is_some, Option, None, Some}
use Rattle.std.specs.Prelude.{slice_get}
use Rattle.std.specs.List.{AllByRecursion}
use Rattle.clr_types.specs.Rising.{IsIn}
use Rattle.clr_types.specs.Types.{bytes_form, class_form, Form, form_at, references_form, slot_kinds, slots_of}
use Rattle.clr_types.specs.Types.{structs_form, TypeRow}
use Rattle.clr_types.specs.declared.item.Item.{Item}
use Rattle.clr_types.specs.declared.shape.Slot.{Slot}
use Rattle.clr_types.proofs.ChangedLists.{all_members, all-map, into_filter, IsIn-map}
use Rattle.clr_heap.specs.Parts.{item_at}
use Rattle.clr_heap.specs.View.{heap_items, HeapView, IsHeap, word_of}
use Rattle.clr_model.specs.Lawful.{is_reference_value, IsNullOrPresent, IsPresent, SlotIsPresent, StepIsPresent}
use Rattle.clr_model.specs.Lookups.{object_named, slots_or_none}
use Rattle.clr_model.specs.Machine.{begun_store, Machine, num, Object, ref, Value}
use Rattle.clr_view.specs.SlotValues.{StandsAt}
use Rattle.clr_view.specs.View.{IsHeld, object_in, objects_in, slot_value, value_at}
use Rattle.clr_view.specs.World.{IsNullOrStands}
use Rattle.clr_view.proofs.ObjectItems.{stands-item}
use Rattle.clr_model.proofs.CollectedFree.{into_parts}
use Rattle.clr_sos.specs.Faultless.{IsFaultless}
use Rattle.clr_sos.specs.Faults.{item_addresses}
use Rattle.clr_format.specs.NameTests.{is_reference_slot, is_true, object_at}
use Rattle.clr_sos.proofs.PlacedItems.{the_object}
use Rattle.clr_open.proofs.ReadShapes.{kinds-are, object-of}

-- a slot whose kind is a reference holds one
reference-at : (vs : List Value) (j : ℕ) → slice_get (map is_reference_value vs) j ≡ Some true
    → (name : ℕ) × (slice_get vs j ≡ Some (ref name))
reference-at [] j e = absurd cc
reference-at (ref name ∷ vs) zero e = (name, refl)
reference-at (num n ∷ vs) zero e = absurd cc
reference-at (v ∷ vs) (suc j) e = reference-at vs j e

true-some : (o : Option Bool) → is_true o ≡ true → o ≡ Some true
true-some None e = absurd cc
true-some (Some true) e = refl
true-some (Some false) e = absurd cc

-- what one slot holds is there, where its word is null or an object's place
slot-present : (m : Machine) (form : Form) (word : ℕ → ℕ) (kind : Bool) (a : ℕ)
    → (kind ≡ true → IsNullOrPresent m (word a)) → SlotIsPresent m (value_at form word kind a)
slot-present m (class_form pattern) word true a named = named refl
slot-present m (class_form pattern) word false a named = tt
slot-present m references_form word true a named = named refl
slot-present m references_form word false a named = tt
slot-present m bytes_form word kind a named = tt
slot-present m (structs_form pattern) word true a named = named refl
slot-present m (structs_form pattern) word false a named = tt

module _ (rows : List TypeRow) (h : HeapView) (heap : IsHeap h) (held : IsHeld rows h) where
  abbrev items : List Item
  items = heap_items rows h

  -- an object that stands is named by its place
  pub named-stands : (x : ℕ) → StandsAt rows h x → IsTrue (is_some (object_named (objects_in rows h) x))
  named-stands x stands =
      let at = stands-item rows h heap held x stands in
      subst (λ (o : Option Object). IsTrue (is_some o)) (sym at.named) refl

  module _ (m : Machine) (objects : m.objects ≡ objects_in rows h) where
    pub is-present : (x : ℕ) → StandsAt rows h x → IsPresent m x
    is-present x stands =
        subst (λ (os : List Object). IsTrue (is_some (object_named os x))) (sym objects) (named-stands x stands)

    pub is-null-or-present : (x : ℕ) → IsNullOrStands rows h x → IsNullOrPresent m x
    is-null-or-present x (inl null) = inl null
    is-null-or-present x (inr stands) = inr (is-present x stands)

    -- ---- slots

    module _ (large : ℕ) (locals : List ℕ) (faultless : IsFaultless rows large h locals) where
      item-slots : (i : Item) → IsIn i items
          → AllByRecursion (SlotIsPresent m) (object_in rows (word_of h) i).slots
      item-slots i listed =
          let form = form_at rows i.type_id.0 in
          let slots = slots_of form i.len in
          all-map (slot_value form (word_of h) i.place) (SlotIsPresent m) slots
          (all_members (λ (s : Slot). SlotIsPresent m (slot_value form (word_of h) i.place s)) slots (λ s here.
          slot-present m form (word_of h) s.reference (i.place + s.offset) (λ on.
          is-null-or-present (word_of h (i.place + s.offset))
          (faultless.references (i.place + s.offset)
          (into_parts (item_addresses rows) i (i.place + s.offset) items listed
          (IsIn-map (λ (o : ℕ). i.place + o)
          (IsIn-map (λ (t : Slot). t.offset) (into_filter (λ (t : Slot). t.reference) slots on here))))))))

      -- each slot of an object is null or names an object
      pub slots-present : AllByRecursion (λ (o : Object). AllByRecursion (SlotIsPresent m) o.slots) (objects_in rows h)
      slots-present =
          all_members (λ (o : Object). AllByRecursion (SlotIsPresent m) o.slots) (objects_in rows h) (λ o i.
          let of = object-of rows h o i in
          subst (λ (x : Object). AllByRecursion (SlotIsPresent m) x.slots) (sym of.is) (item-slots of.item of.listed))

    -- ---- begun stores

    -- a store is into a slot that refers
    pub store-present : (object slot : ℕ) → StandsAt rows h object
        → is_reference_slot rows (object_at items object) slot ≡ true → StepIsPresent m (begun_store object slot)
    store-present object slot stands on =
        let i = item_at rows (word_of h) object in
        let at = stands-item rows h heap held object stands in
        let form = form_at rows i.type_id.0 in
        let kind : slice_get (slot_kinds form i.len) slot ≡ Some true =
        true-some (slice_get (slot_kinds form i.len) slot)
        (ap (λ (o : Option Item). is_reference_slot rows o slot)
        (sym (the_object rows h heap held.walkable object i at)) ∙ on) in
        let value = reference-at (object_in rows (word_of h) i).slots slot
        (ap (λ (ks : List Bool). slice_get ks slot) (kinds-are form (word_of h) i.place i.len) ∙ kind) in (
          is-present object stands,
          value.0,
          ap (λ (os : List Object). slice_get (slots_or_none (object_named os object)) slot) objects
              ∙ ap (λ (o : Option Object). slice_get (slots_or_none o) slot) at.named ∙ value.1,
        )
