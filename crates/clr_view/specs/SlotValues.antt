-- The objects of a heap by their places, and their slots.
use Rattle.std.specs.Prelude.{◌≡◌, ℕ, ◌+◌, ◌%◌, ◌≤◌, true, List, length, Some, slice_get}
use Rattle.clr_mem.specs.Words.{with_byte}
use Rattle.clr_types.specs.Types.{TypeRow, Form, bytes_form, class_form, form_at, references_form, size_of, slots_of}
use Rattle.clr_types.specs.Types.{structs_form}
use Rattle.clr_types.specs.Rising.{IsIn}
use Rattle.clr_types.specs.declared.item.Item.{Item}
use Rattle.clr_types.specs.declared.shape.Slot.{Slot}
use Rattle.clr_heap.specs.Memories.{word_address}
use Rattle.clr_heap.specs.View.{heap_items, HeapView, stored, word_of}
use Rattle.clr_model.specs.Lookups.{object_named}
use Rattle.clr_view.specs.View.{HasStored, is_object, object_in, objects_in, StandsAmong, word_value}

-- an object of the heap stands at the place
abbrev pub StandsAt : List TypeRow → HeapView → ℕ → Type 0
StandsAt rows h place = StandsAmong rows (word_of h) (heap_items rows h) place

-- an item of the heap is the object that stands at the place
pub record IsObjectAt (rows : List TypeRow) (h : HeapView) (place : ℕ) (i : Item) : Type 0 where
  pub listed : IsIn i (heap_items rows h)
  pub object : is_object i ≡ true
  pub at : i.place ≡ place
  pub named : object_named (objects_in rows h) place ≡ Some (object_in rows (word_of h) i)
  pub known : i.type_id.0 ≤ length rows
  pub small : size_of (form_at rows i.type_id.0) i.len ≤ 1073741824

-- slot j of an item
abbrev pub IsSlot : List TypeRow → Item → ℕ → Slot → Type 0
IsSlot rows i j slot = slice_get (slots_of (form_at rows i.type_id.0) i.len) j ≡ Some slot

-- one of an item's slots
pub record HasSlot (rows : List TypeRow) (i : Item) (slot : Slot) : Type 0 where
  pub number : ℕ
  pub is : IsSlot rows i number slot

-- the words hold a value in a slot of an item, by whatever number the slot has
abbrev pub HasSlotValue : List TypeRow → (ℕ → ℕ) → Item → Slot → ℕ → Type 0
HasSlotValue rows word i slot v =
    (j : ℕ) → IsSlot rows i j slot → slice_get (object_in rows word i).slots j ≡ Some (word_value slot.reference v)

-- the old heap, with another value in a slot of an item
abbrev pub HasStoredSlot : List TypeRow → HeapView → HeapView → Item → Slot → ℕ → Type 0
HasStoredSlot rows old new i slot v =
    (j : ℕ) → IsSlot rows i j slot → HasStored rows old new i.place j (word_value slot.reference v)

-- the heap with a value in the slot at an address: a word, but in an array of bytes a byte of a word
abbrev pub with_value_at : Form → HeapView → ℕ → ℕ → HeapView
with_value_at (class_form pattern) h a v = stored h a v
with_value_at references_form h a v = stored h a v
with_value_at bytes_form h a v = stored h (word_address a) (with_byte (word_of h (word_address a)) (a % 8) v)
with_value_at (structs_form pattern) h a v = stored h a v

-- the heap with a value in a slot of an item
abbrev pub with_value : List TypeRow → HeapView → Item → Slot → ℕ → HeapView
with_value rows h i slot v = with_value_at (form_at rows i.type_id.0) h (i.place + slot.offset) v
