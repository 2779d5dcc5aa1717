-- A slot of an item of the heap: its words, the value that they hold, and what a store into it leaves.
use Rattle.std.proofs.Common.{◌≡◌, inl, inr, ℕ, zero, suc, ◌+◌, ◌%◌, ◌^◌, ◌<◌, Bool, true, false, List, [], ◌∷◌, length}
use Rattle.std.proofs.Common.{replicate, Some, refl, ap, sym, ◌∙◌, subst, arith, true≢false}
use Rattle.std.specs.Prelude.{slice_get}
use Rattle.std.specs.Option.{option_map}
use Rattle.std.proofs.lemmas.Bool.{cases_Bool}
use Rattle.std.proofs.lemmas.List.{length-map, length-replicate}
use Rattle.std.proofs.lemmas.Option.{slice_get-map}
use Rattle.clr_mem.specs.Words.{byte_of, with_byte}
use Rattle.clr_mem.proofs.Digits.{byte_of-with_byte_other}
use Rattle.clr_types.specs.Rising.{IsIn}
use Rattle.clr_types.specs.Types.{bytes_form, class_form, Form, form_at, is_bytes, references_form, slot_kinds}
use Rattle.clr_types.specs.Types.{slot_offset, slots_from, slots_of, structs_form, TypeRow}
use Rattle.clr_types.specs.declared.item.Item.{Item}
use Rattle.clr_types.specs.declared.shape.Slot.{Slot}
use Rattle.clr_heap.specs.Memories.{HasWord, word_address}
use Rattle.clr_heap.specs.View.{heap_items, HeapView, IsHeap, stored, word_of}
use Rattle.clr_model.specs.Machine.{num, Value}
use Rattle.clr_view.specs.View.{AreFreeHeads, HasStored, IsByteSlot, IsHeld, IsWordSlot, object_in, slot_address}
use Rattle.clr_view.specs.View.{slot_value, word_value}
use Rattle.clr_view.specs.Clean.{AreClean, slots_end}
use Rattle.clr_view.specs.Marks.{IsUnmarked}
use Rattle.clr_view.specs.SlotValues.{HasSlot, IsSlot}
use Rattle.clr_view.proofs.CleanWords.{behind-header, clean_stored, LeavesPadding}
use Rattle.clr_view.proofs.FreeHeads.{heads_stored}
use Rattle.clr_view.proofs.Listed.{listed-head, listed-item, listed-low, listed-sized}
use Rattle.clr_view.proofs.Padding.{slot-below-padding}
use Rattle.clr_view.proofs.Slots.{slot_word, slot-inside}
use Rattle.clr_view.proofs.StoredSlots.{bytes-form, kind-there, value-is}
use Rattle.clr_view.proofs.Stores.{byte_slot_above, byte_slot_stored, byte_slot_word, cell_has_word, slot_stored}
use Rattle.clr_view.proofs.Stores.{word_slot, word_slot_above}
use Rattle.clr_view.proofs.Unmarked.{unmarked_stored}

-- ---- slots by number

slots-told : (form : Form) (first : ℕ) (kinds : List Bool) (j : ℕ) (slot : Slot)
    → slice_get (slots_from form first kinds) j ≡ Some slot
    → (slice_get kinds j ≡ Some slot.reference) × (slot.offset ≡ slot_offset form (first + j))
slots-told form first [] j slot e = absurd cc
slots-told form first (kind ∷ kinds) zero slot e =
    let is : record { offset = slot_offset form first; reference = kind } ≡ slot = cc in
    let none : first ≡ first + 0 = omega arith in
    (ap (λ (s : Slot). Some s.reference) is, sym (ap (λ (s : Slot). s.offset) is) ∙ ap (slot_offset form) none)
slots-told form first (kind ∷ kinds) (suc j) slot e =
    let rest = slots-told form (first + 1) kinds j slot e in
    let next : first + 1 + j ≡ first + suc j = omega arith in
    (rest.0, rest.1 ∙ ap (slot_offset form) next)

-- what a slot's number says of it
pub slot-told : (form : Form) (len j : ℕ) (slot : Slot) → slice_get (slots_of form len) j ≡ Some slot
    → (slice_get (slot_kinds form len) j ≡ Some slot.reference) × (slot.offset ≡ slot_offset form j)
slot-told form len j slot e =
    let told = slots-told form 0 (slot_kinds form len) j slot e in
    let none : 0 + j ≡ j = omega arith in
    (told.0, told.1 ∙ ap (slot_offset form) none)

-- bytes are numbers
byte-number : (n j : ℕ) (kind : Bool) → slice_get (replicate n false) j ≡ Some kind → kind ≡ false
byte-number zero j kind e = absurd cc
byte-number (suc n) zero kind e = cc
byte-number (suc n) (suc j) kind e = byte-number n j kind e

pub byte-is-number : (form : Form) (len j : ℕ) (slot : Slot) → is_bytes form ≡ true
    → slice_get (slots_of form len) j ≡ Some slot → slot.reference ≡ false
byte-is-number form len j slot bytes is =
    byte-number len j slot.reference
    (subst (λ f. slice_get (slot_kinds f len) j ≡ Some slot.reference) (bytes-form form bytes)
    (slot-told form len j slot is).0)

-- a slot's word is near its address
word-near : (form : Form) (a : ℕ) → a < slot_word form a + 8
word-near (class_form pattern) a = omega arith
word-near references_form a = omega arith
word-near bytes_form a = omega arith
word-near (structs_form pattern) a = omega arith

-- ---- for callers

-- an object has as many slots as its type and length say
pub slots-counted : (rows : List TypeRow) (word : ℕ → ℕ) (i : Item)
    → length (object_in rows word i).slots ≡ length (slot_kinds (form_at rows i.type_id.0) i.len)
slots-counted rows word i =
    length-map (slots_of (form_at rows i.type_id.0) i.len) (slot_value (form_at rows i.type_id.0) word i.place)
    ∙ counted (form_at rows i.type_id.0) 0 (slot_kinds (form_at rows i.type_id.0) i.len)
  where
    counted : (form : Form) (first : ℕ) (kinds : List Bool) → length (slots_from form first kinds) ≡ length kinds
    counted form first [] = refl
    counted form first (kind ∷ kinds) = ap suc (counted form (first + 1) kinds)

-- what a slot holds, by its number
slot-holds : (rows : List TypeRow) (word : ℕ → ℕ) (i : Item) (j : ℕ) (slot : Slot) → IsSlot rows i j slot
    → slice_get (object_in rows word i).slots j ≡ Some (slot_value (form_at rows i.type_id.0) word i.place slot)
slot-holds rows word i j slot is =
    slice_get-map (slot_value (form_at rows i.type_id.0) word i.place) (slots_of (form_at rows i.type_id.0) i.len) j
    ∙ ap (option_map (slot_value (form_at rows i.type_id.0) word i.place)) is

-- in an array of bytes a number, and else what the slot's kind says
value-kind : (form : Form) (len j : ℕ) (word : ℕ → ℕ) (place : ℕ) (slot : Slot)
    → slice_get (slots_of form len) j ≡ Some slot
    → (v : ℕ) × (slot_value form word place slot ≡ word_value slot.reference v)
value-kind (class_form pattern) len j word place slot is = (word (place + slot.offset), refl)
value-kind references_form len j word place slot is = (word (place + slot.offset), refl)
value-kind bytes_form len j word place slot is =
    let number = byte-number len j slot.reference (slot-told bytes_form len j slot is).0 in
    let b = byte_of (word (word_address (place + slot.offset))) ((place + slot.offset) % 8) in
    (b, ap (λ kind. word_value kind b) (sym number))
value-kind (structs_form pattern) len j word place slot is = (word (place + slot.offset), refl)

-- a slot that is a reference holds one, and any other a number
pub slot-kind : (rows : List TypeRow) (word : ℕ → ℕ) (i : Item) (j : ℕ) (slot : Slot) → IsSlot rows i j slot
    → (v : ℕ) × (slice_get (object_in rows word i).slots j ≡ Some (word_value slot.reference v))
slot-kind rows word i j slot is =
    let value = value-kind (form_at rows i.type_id.0) i.len j word i.place slot is in
    (value.0, slot-holds rows word i j slot is ∙ ap (λ (x : Value). Some x) value.1)

-- a reference is no byte
pub reference-word : (rows : List TypeRow) (i : Item) (slot : Slot) → HasSlot rows i slot → slot.reference ≡ true
    → is_bytes (form_at rows i.type_id.0) ≡ false
reference-word rows i slot has reference = elim (cases_Bool (is_bytes (form_at rows i.type_id.0))) [
  | inl bytes ↦
      let number = byte-is-number (form_at rows i.type_id.0) i.len has.number slot bytes has.is in
      absurd (true≢false (sym reference ∙ number))
  | inr words ↦ words
]

-- ---- one slot

module _ (rows : List TypeRow) (h : HeapView) (i : Item) (slot : Slot) (heap : IsHeap h) (held : IsHeld rows h)
    (listed : IsIn i (heap_items rows h)) where
  abbrev form : Form
  form = form_at rows i.type_id.0

  abbrev a : ℕ
  a = i.place + slot.offset

  word-slot-is : (j : ℕ) → IsSlot rows i j slot → is_bytes form ≡ false → IsWordSlot rows h i j slot.reference
  word-slot-is j is words = record { listed = listed; words = words; kind = (slot-told form i.len j slot is).0 }

  byte-slot-is : (j : ℕ) → IsSlot rows i j slot → is_bytes form ≡ true → IsByteSlot rows h i j
  byte-slot-is j is bytes =
      let form_is = bytes-form form bytes in
      let kinds : slice_get (slot_kinds bytes_form i.len) j ≡ Some slot.reference =
      subst (λ f. slice_get (slot_kinds f i.len) j ≡ Some slot.reference) form_is (slot-told form i.len j slot is).0 in
      let inside = kind-there (slot_kinds bytes_form i.len) j slot.reference kinds in
      let count = length-replicate {A = Bool} i.len false in
      record { listed = listed; bytes = bytes; inside = omega arith }

  address-is : (j : ℕ) → IsSlot rows i j slot → slot_address rows i j ≡ a
  address-is j is = let offset = (slot-told form i.len j slot is).1 in omega arith

  -- the slot's address is small
  pub slot-low : HasSlot rows i slot → a < 2 ^ 63
  slot-low has =
      let told = slot-told form i.len has.number slot has.is in
      let z = (listed-head rows h i heap held listed).mt.aligned in
      let inside = kind-there (slot_kinds form i.len) has.number slot.reference told.0 in
      let below = (slot-inside form i.len i.place has.number z inside).below in
      let near = word-near form (i.place + slot_offset form has.number) in
      let sized = listed-sized rows h i heap held listed in
      let low = listed-low rows h i heap held listed in
      let offset = told.1 in
      omega (arith, below, near, sized, low, offset)

  -- its word can be read and written
  pub word-there : HasSlot rows i slot → is_bytes form ≡ false → HasWord h.memories a
  word-there has words =
      let is = word-slot-is has.number has.is words in
      subst (λ b. HasWord h.memories b) (address-is has.number has.is)
      (cell_has_word rows h i (slot_address rows i has.number) 0 heap held
      (word_slot rows h i has.number 0 heap held slot.reference is))

  pub byte-there : HasSlot rows i slot → is_bytes form ≡ true → HasWord h.memories (word_address a)
  byte-there has bytes =
      let is = byte-slot-is has.number has.is bytes in
      subst (λ b. HasWord h.memories (word_address b)) (address-is has.number has.is)
      (cell_has_word rows h i (word_address (slot_address rows i has.number)) 0 heap held
      (byte_slot_word rows h i has.number 0 heap held is (omega arith)))

  -- ---- read

  -- the word there is the slot's value
  pub word-read : (v : ℕ) → is_bytes form ≡ false → v ≡ word_of h a → (j : ℕ) → IsSlot rows i j slot
      → slice_get (object_in rows (word_of h) i).slots j ≡ Some (word_value slot.reference v)
  word-read v words read j is =
      slot-holds rows (word_of h) i j slot is
      ∙ ap (λ (x : Value). Some x) (value-is form (word_of h) slot.reference a words
      ∙ ap (word_value slot.reference) (sym read))

  -- in an array of bytes the byte there is
  pub byte-read : (v : ℕ) → is_bytes form ≡ true → v ≡ byte_of (word_of h (word_address a)) (a % 8) → (j : ℕ)
      → IsSlot rows i j slot → slice_get (object_in rows (word_of h) i).slots j ≡ Some (word_value slot.reference v)
  byte-read v bytes read j is =
      let form_is = bytes-form form bytes in
      let number : slot.reference ≡ false = byte-is-number form i.len j slot bytes is in
      slot-holds rows (word_of h) i j slot is
      ∙ ap (λ f. Some (slot_value f (word_of h) i.place slot)) form_is
      ∙ ap (λ (b : ℕ). Some (num b)) (sym read)
      ∙ ap (λ kind. Some (word_value kind v)) (sym number)

  -- ---- written

  -- with the word there the slot has the value
  pub word-stored : (new : HeapView) (v : ℕ) → is_bytes form ≡ false → new ≡ stored h a v → (j : ℕ)
      → IsSlot rows i j slot → HasStored rows h new i.place j (word_value slot.reference v)
  word-stored new v words new_is j is =
      let at = address-is j is in
      subst (λ g. HasStored rows h g i.place j (word_value slot.reference v)) (ap (λ b. stored h b v) at ∙ sym new_is)
      (slot_stored rows h i j v heap held slot.reference (word-slot-is j is words))

  -- and it marks nothing
  pub word-unmarked : (new : HeapView) (v : ℕ) → is_bytes form ≡ false → new ≡ stored h a v → HasSlot rows i slot
      → IsUnmarked rows h → IsUnmarked rows new
  word-unmarked new v words new_is has clear =
      let j = has.number in
      let is = word-slot-is j has.is words in
      let same = ap (λ b. stored h b v) (address-is j has.is) ∙ sym new_is in
      subst (IsUnmarked rows) same
      (unmarked_stored rows h i (slot_address rows i j) v heap held (word_slot rows h i j v heap held slot.reference is)
      clear)

  -- nor does it change a free item's head
  pub word-heads : (new : HeapView) (v : ℕ) → is_bytes form ≡ false → new ≡ stored h a v → HasSlot rows i slot
      → AreFreeHeads rows h → AreFreeHeads rows new
  word-heads new v words new_is has heads =
      let j = has.number in
      let is = word-slot-is j has.is words in
      let same = ap (λ b. stored h b v) (address-is j has.is) ∙ sym new_is in
      subst (AreFreeHeads rows) same
      (heads_stored rows h i (slot_address rows i j) v heap held (word_slot rows h i j v heap held slot.reference is)
      (inr (word_slot_above rows h i j v heap held slot.reference is)) heads)

  -- or a header or padding
  pub word-clean : (new : HeapView) (v : ℕ) → is_bytes form ≡ false → new ≡ stored h a v → HasSlot rows i slot
      → AreClean rows h → AreClean rows new
  word-clean new v words new_is has clean =
      let j = has.number in
      let is = word-slot-is j has.is words in
      let at = slot_address rows i j in
      let same = ap (λ b. stored h b v) (address-is j has.is) ∙ sym new_is in
      let z = (listed-item rows h i heap held listed).aligned in
      let inside = kind-there (slot_kinds form i.len) j slot.reference is.kind in
      let cell = word_slot rows h i j v heap held slot.reference is in
      let leaves : LeavesPadding rows h i at v heap held cell = λ p low here.
      let ends = slot-below-padding form i.len i.place j p z words inside low in
      absurd (omega arith) in
      subst (AreClean rows) same
      (clean_stored rows h i at v heap held cell
      (behind-header rows h i at v heap held cell (word_slot_above rows h i j v heap held slot.reference is)) leaves
      clean)

  -- and so with the byte there
  pub byte-stored-there : (new : HeapView) (v : ℕ) → is_bytes form ≡ true → v < 256
      → new ≡ stored h (word_address a) (with_byte (word_of h (word_address a)) (a % 8) v) → (j : ℕ)
      → IsSlot rows i j slot → HasStored rows h new i.place j (word_value slot.reference v)
  byte-stored-there new v bytes small new_is j is =
      let at = address-is j is in
      let number : slot.reference ≡ false = byte-is-number form i.len j slot bytes is in
      let there = byte_slot_stored rows h i j v heap held (byte-slot-is j is bytes) small in
      let same = ap (λ b. stored h (word_address b) (with_byte (word_of h (word_address b)) (b % 8) v)) at
      ∙ sym new_is in
      subst (λ kind. HasStored rows h new i.place j (word_value kind v)) (sym number)
      (subst (λ g. HasStored rows h g i.place j (num v)) same there)

  pub byte-unmarked : (new : HeapView) (v : ℕ) → is_bytes form ≡ true → v < 256
      → new ≡ stored h (word_address a) (with_byte (word_of h (word_address a)) (a % 8) v) → HasSlot rows i slot
      → IsUnmarked rows h → IsUnmarked rows new
  byte-unmarked new v bytes small new_is has clear =
      let j = has.number in
      let is = byte-slot-is j has.is bytes in
      let at = slot_address rows i j in
      let w = with_byte (word_of h (word_address at)) (at % 8) v in
      let same = ap (λ b. stored h (word_address b) (with_byte (word_of h (word_address b)) (b % 8) v))
      (address-is j has.is) ∙ sym new_is in
      subst (IsUnmarked rows) same
      (unmarked_stored rows h i (word_address at) w heap held (byte_slot_word rows h i j v heap held is small) clear)

  pub byte-heads : (new : HeapView) (v : ℕ) → is_bytes form ≡ true → v < 256
      → new ≡ stored h (word_address a) (with_byte (word_of h (word_address a)) (a % 8) v) → HasSlot rows i slot
      → AreFreeHeads rows h → AreFreeHeads rows new
  byte-heads new v bytes small new_is has heads =
      let j = has.number in
      let is = byte-slot-is j has.is bytes in
      let at = slot_address rows i j in
      let w = with_byte (word_of h (word_address at)) (at % 8) v in
      let same = ap (λ b. stored h (word_address b) (with_byte (word_of h (word_address b)) (b % 8) v))
      (address-is j has.is) ∙ sym new_is in
      subst (AreFreeHeads rows) same
      (heads_stored rows h i (word_address at) w heap held (byte_slot_word rows h i j v heap held is small)
      (inr (byte_slot_above rows h i j v heap held is small)) heads)

  pub byte-clean : (new : HeapView) (v : ℕ) → is_bytes form ≡ true → v < 256
      → new ≡ stored h (word_address a) (with_byte (word_of h (word_address a)) (a % 8) v) → HasSlot rows i slot
      → AreClean rows h → AreClean rows new
  byte-clean new v bytes small new_is has clean =
      let j = has.number in
      let is = byte-slot-is j has.is bytes in
      let at = slot_address rows i j in
      let w = with_byte (word_of h (word_address at)) (at % 8) v in
      let same = ap (λ b. stored h (word_address b) (with_byte (word_of h (word_address b)) (b % 8) v))
      (address-is j has.is) ∙ sym new_is in
      let form_is = bytes-form form bytes in
      let inside = is.inside in
      let offset : slot_offset form j ≡ 16 + j = ap (λ (f : Form). slot_offset f j) form_is in
      let end : slots_end form i.len ≡ 16 + i.len = ap (λ (f : Form). slots_end f i.len) form_is in
      let cell = byte_slot_word rows h i j v heap held is small in
      let leaves : LeavesPadding rows h i (word_address at) w heap held cell = λ p low here.
      byte_of-with_byte_other (word_of h (word_address at)) (at % 8) (p % 8) v small (λ digit. omega arith) in
      subst (AreClean rows) same
      (clean_stored rows h i (word_address at) w heap held cell
      (behind-header rows h i (word_address at) w heap held cell (byte_slot_above rows h i j v heap held is small))
      leaves clean)
