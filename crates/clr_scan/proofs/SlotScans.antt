-- Slots of an item by their numbers, and which of them are references.
use Rattle.std.proofs.Common.{◌≡◌, ◌≢◌, inl, inr, ℕ, zero, suc, ◌+◌, ◌*◌, ◌^◌, ◌<◌, Bool, true, false, List, [], ◌∷◌}
use Rattle.std.proofs.Common.{length, filter, map, not, ◌&&◌, ◌||◌, ◌==◌, nat_lt, refl, ap, sym, ◌∙◌, subst, arith}
use Rattle.std.proofs.Common.{Some, slice_get}
use Rattle.std.proofs.lemmas.Bool.{cases_eq, cases_lt, eq-eqb, le-ltb, lt-ltb, ne_eqb, true≢false}
use Rattle.clr_types.specs.Descriptors.{reference_offsets, series_of}
use Rattle.clr_types.specs.Rising.{first, IsIn, later}
use Rattle.clr_types.specs.Types.{bytes_form, class_form, Form, form_at, is_bytes, references_form, slot_kinds}
use Rattle.clr_types.specs.Types.{slot_offset, slots_from, slots_of, structs_form, TypeRow}
use Rattle.clr_types.specs.declared.item.Item.{Item}
use Rattle.clr_types.specs.declared.shape.Slot.{Slot}
use Rattle.clr_types.proofs.ChangedLists.{into_filter, IsIn-map}
use Rattle.clr_types.proofs.RisingLists.{in_cons}
use Rattle.clr_heap.specs.Memories.{HasWord, memory_index}
use Rattle.clr_heap.specs.View.{heap_items, HeapView, IsHeap}
use Rattle.clr_view.specs.View.{IsHeld, is_object}
use Rattle.clr_view.proofs.Listed.{listed-low, listed-sized}
use Rattle.clr_view.proofs.Standing.{cell_has, cell_index, InCell, mt_in, standing}
use Rattle.clr_view.proofs.StoredSlots.{slot-there}
use Rattle.clr_scan.specs.References.{IsReferenceOf}
use Rattle.clr_mark.proofs.References.{no_references}

-- the number of the slot at an offset of a reference
pub record IsSlotNumber (form : Form) (len offset n : ℕ) : Type 0 where
  pub below : n < length (slot_kinds form len)
  pub offset_is : offset ≡ slot_offset form n
  pub kind : slice_get (slot_kinds form len) n ≡ Some true

record IsNumberFrom (form : Form) (i : ℕ) (kinds : List Bool) (offset : ℕ) : Type 0 where
  number : ℕ
  below : number < length kinds
  offset_is : offset ≡ slot_offset form (i + number)
  kind : slice_get kinds number ≡ Some true

number_from : (form : Form) (i : ℕ) (kinds : List Bool) (offset : ℕ)
    → IsIn offset (map (λ (s : Slot). s.offset) (filter (λ (s : Slot). s.reference) (slots_from form i kinds)))
    → IsNumberFrom form i kinds offset
number_from form i [] offset l = elim l [ ]
number_from form i (true ∷ kinds) offset l = elim (in_cons l) [
  | inl here ↦ let at : i ≡ i + 0 = omega arith in
      record { number = 0; below = omega arith; offset_is = here ∙ ap (slot_offset form) at; kind = refl }
  | inr more ↦
      let rest = number_from form (i + 1) kinds offset more in
      let l = rest.below in
      let at : i + 1 + rest.number ≡ i + suc rest.number = omega arith in
      record {
        number = suc rest.number;
        below = omega arith;
        offset_is = rest.offset_is
            ∙ ap (slot_offset form) at;
        kind = rest.kind;
      }
]
number_from form i (false ∷ kinds) offset l =
    let rest = number_from form (i + 1) kinds offset l in
    let l = rest.below in
    let at : i + 1 + rest.number ≡ i + suc rest.number = omega arith in
    record {
      number = suc rest.number;
      below = omega arith;
      offset_is = rest.offset_is
          ∙ ap (slot_offset form) at;
      kind = rest.kind;
    }

pub slot_number : (form : Form) (len offset : ℕ) → IsIn offset (reference_offsets form len) → (n : ℕ)
    × IsSlotNumber form len offset n
slot_number form len offset l =
    let from = number_from form 0 (slot_kinds form len) offset l in
    let at : 0 + from.number ≡ from.number = omega arith in (
      from.number,
      record {
        below = from.below;
        offset_is = from.offset_is
            ∙ ap (slot_offset form) at;
        kind = from.kind;
      },
    )

get-in : {X : Type 0} (xs : List X) (n : ℕ) (x : X) → slice_get xs n ≡ Some x → IsIn x xs
get-in [] n x e = absurd cc
get-in (y ∷ xs) zero x e = let same : y ≡ x = cc in subst (λ z. IsIn z (y ∷ xs)) same first
get-in (y ∷ xs) (suc n) x e = later (get-in xs n x e)

-- a slot that is a reference
pub slot_reference : (rows : List TypeRow) (i : Item) (n : ℕ) (slot : Slot) → is_object i ≡ true
    → slice_get (slots_of (form_at rows i.type_id.0) i.len) n ≡ Some slot → slot.reference ≡ true
    → IsReferenceOf rows i (i.place + slot.offset)
slot_reference rows i n slot object get on = record {
  object = object;
  offset = slot.offset;
  reference = IsIn-map (λ (s : Slot). s.offset)
      (into_filter (λ (s : Slot). s.reference) (slots_of (form_at rows i.type_id.0) i.len) on
      (get-in (slots_of (form_at rows i.type_id.0) i.len) n slot get));
  address = refl;
}

-- an item of a type without runs of references has none
pub no_slots : (rows : List TypeRow) (i : Item) (a : ℕ) → series_of (form_at rows i.type_id.0) ≡ []
    → IsReferenceOf rows i a → ⊥
no_slots rows i a none r = elim
    (subst (λ (os : List ℕ). IsIn r.offset os) (no_references (form_at rows i.type_id.0) i.len none) r.reference) [ ]

-- ---- slots that are words, one behind the other

-- slot j of the item is word j of those of which word 0 stands at `base`
abbrev pub AreSlotWords : List TypeRow → Item → ℕ → Type 0
AreSlotWords rows i base =
    (j : ℕ) → j < length (slot_kinds (form_at rows i.type_id.0) i.len)
    → base + 8 * j ≡ i.place + slot_offset (form_at rows i.type_id.0) j

-- where slots aren't bytes, they are such words
pub slots_in_row : (form : Form) (place j : ℕ) → is_bytes form ≡ false
    → place + slot_offset form 0 + 8 * j ≡ place + slot_offset form j
slots_in_row (class_form pattern) place j words = omega arith
slots_in_row references_form place j words = omega arith
slots_in_row bytes_form place j words = absurd (true≢false words)
slots_in_row (structs_form pattern) place j words = omega arith

module _ (rows : List TypeRow) (i : Item) (base : ℕ) (row : AreSlotWords rows i base) where
  -- a reference by its number
  pub slot_word : (a : ℕ) → IsReferenceOf rows i a
      → (j : ℕ) × (j < length (slot_kinds (form_at rows i.type_id.0) i.len)) × (a ≡ base + 8 * j)
  slot_word a r =
      let (j, is) = slot_number (form_at rows i.type_id.0) i.len r.offset r.reference in
      (j, is.below, r.address ∙ ap (λ p. i.place + p) is.offset_is ∙ sym (row j is.below))

  module _ (j : ℕ) (below : j < length (slot_kinds (form_at rows i.type_id.0) i.len)) where
    pub slot_named : (slot : Slot) → is_object i ≡ true
        → slice_get (slots_of (form_at rows i.type_id.0) i.len) j ≡ Some slot
        → slot.offset ≡ slot_offset (form_at rows i.type_id.0) j → slot.reference ≡ true
        → IsReferenceOf rows i (base + 8 * j)
    slot_named slot object get offset on =
        subst (IsReferenceOf rows i) (ap (λ p. i.place + p) offset ∙ sym (row j below))
        (slot_reference rows i j slot object get on)

    -- a slot of another kind is no reference
    pub slot_other : (kind : Bool) → slice_get (slot_kinds (form_at rows i.type_id.0) i.len) j ≡ Some kind
        → kind ≡ false → IsReferenceOf rows i (base + 8 * j) → ⊥
    slot_other kind get off r =
        let (n, is) = slot_number (form_at rows i.type_id.0) i.len r.offset r.reference in
        let at = row n is.below in
        let there : base + 8 * j ≡ i.place + slot_offset (form_at rows i.type_id.0) n =
        r.address ∙ ap (λ p. i.place + p) is.offset_is in
        let same : n ≡ j = omega (arith, at, there) in
        let on : Some kind ≡ Some true =
        sym get ∙ subst (λ k. slice_get (slot_kinds (form_at rows i.type_id.0) i.len) k ≡ Some true) same is.kind in
        let is_on : kind ≡ true = cc in
        true≢false (sym is_on ∙ off)

    -- its word stands in the item's cell, so it can be read
    module _ (h : HeapView) (heap : IsHeap h) (held : IsHeld rows h) (listed : IsIn i (heap_items rows h))
        (words : is_bytes (form_at rows i.type_id.0) ≡ false) where
      cell : InCell i (base + 8 * j)
      cell =
          let sized = listed-sized rows h i heap held listed in
          let at = row j below in
          let aligned = (standing rows h heap held i listed).aligned in
          let there = slot-there (form_at rows i.type_id.0) i.len i.place j words aligned below in
          let whole = there.aligned in
          let above = there.above in
          let under = there.below in
          record {
            aligned = omega (arith, at, whole);
            low = omega (arith, at, above);
            high = omega (arith, at, under, sized);
          }

      pub slot_has : HasWord h.memories (base + 8 * j)
      slot_has = cell_has rows h heap held i (base + 8 * j) listed cell

      pub slot_index : memory_index h.memories i.place ≡ memory_index h.memories (base + 8 * j)
      slot_index = cell_index rows h heap held i i.place listed (mt_in rows h heap held i listed)
          ∙ sym (cell_index rows h heap held i (base + 8 * j) listed cell)

      pub slot_low : base + 8 * j < 2 ^ 64
      slot_low =
          let c = cell in
          let high = c.high in
          let low = listed-low rows h i heap held listed in
          omega (arith, high, low)

-- ---- tests of slots

-- what a slot's test says where it fails
pub slot_clear : (word age of : ℕ) (below : Bool) → below ≡ (not (word == 0) && nat_lt of age) → below ≡ false
    → word ≢ 0 → of < age → ⊥
slot_clear word age of below is off ne less =
    let some = ne_eqb word 0 ne in
    let under = lt-ltb of age less in
    true≢false (sym (is ∙ (λ k. not (some k) && under k)) ∙ off)

pub younger_parts : (a b : Bool) → (a || b) ≡ false → (a ≡ false) × (b ≡ false)
younger_parts true b e = absurd cc
younger_parts false b e = (refl, e)

pub younger_joined : (a b : Bool) → a ≡ false → b ≡ false → (a || b) ≡ false
younger_joined a b e f = λ k. e k || f k

-- the test of a slot fails where it names nothing of a lower generation
pub slot_silent : (word age of : ℕ) (below : Bool) → below ≡ (not (word == 0) && nat_lt of age)
    → (word ≢ 0 → of < age → ⊥) → below ≡ false
slot_silent word age of below is quiet = elim (cases_eq word 0) [
  | inl none ↦ is ∙ (let on = eq-eqb word 0 none in λ k. not (on k) && nat_lt of age)
  | inr some ↦ elim (cases_lt of age) [
    | inl less ↦ absurd (quiet some less)
    | inr more ↦ is ∙ (let some_on = ne_eqb word 0 some in let off = le-ltb of age more in λ k.
        not (some_on k) && off k)
  ]
]
