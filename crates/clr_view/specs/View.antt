-- The objects, the free items and the layout of a machine, read off the words of a heap.
use Rattle.std.specs.Prelude.{◌≡◌, ℕ, ◌+◌, ◌-◌, ◌%◌, ◌<◌, ◌≤◌, Bool, true, false, List, [], ◌∷◌, ◌++◌}
use Rattle.std.specs.Prelude.{filter, map, None, Some, slice_get, length, get_or}
use Rattle.clr_mem.specs.Words.{byte_of}
use Rattle.clr_types.specs.Types.{TypeRow, Form, class_form, references_form, bytes_form, structs_form, form_at}
use Rattle.clr_types.specs.Types.{is_bytes, mt_of, size_of, slot_kinds, slot_offset, slots_of}
use Rattle.clr_types.specs.Rising.{changed_by, IsIn, sorted_by}
use Rattle.clr_types.specs.Ranges.{Piece, piece_end}
use Rattle.clr_types.specs.Segments.{Layout, ephemeral}
use Rattle.clr_types.specs.declared.item.Item.{Item}
use Rattle.clr_types.specs.declared.shape.Slot.{Slot}
use Rattle.clr_heap.specs.Memories.{word_address}
use Rattle.clr_types.specs.declared.segment.SegKind.TheVariants.{Ephemeral}
use Rattle.clr_heap.specs.Parts.{Among, item_piece, rest_part}
use Rattle.clr_heap.specs.View.{AreWalkable, frame, heap_items, HeapView, IsHeap, parts_of, segment_at, word_of}
use Rattle.clr_model.specs.Machine.{Value, ref, num, Object}
use Rattle.clr_model.specs.Allocation.{context_front, front_taken, IsRefilled}
use Rattle.clr_model.specs.Updates.{all_given_up, empty_slots, with_slot_of}
use Rattle.clr_view.specs.Clean.{AreClean}
pub use Rattle.clr_types.specs.Bits.{has_suppressed_bit}
pub use Rattle.clr_view.specs.Items.{is_free, is_object}

-- ---- one object

-- a word as the value of a slot: a reference or a number
abbrev pub word_value : Bool → ℕ → Value
word_value true w = ref w
word_value false w = num w

-- the value of the slot at an address: a word, but in an array of bytes a byte, the lowest of its word first
abbrev pub value_at : Form → (ℕ → ℕ) → Bool → ℕ → Value
value_at (class_form pattern) word reference a = word_value reference (word a)
value_at references_form word reference a = word_value reference (word a)
value_at bytes_form word reference a = num (byte_of (word (word_address a)) (a % 8))
value_at (structs_form pattern) word reference a = word_value reference (word a)

-- the value of a slot of the object at a place
abbrev pub slot_value : Form → (ℕ → ℕ) → ℕ → Slot → Value
slot_value form word place slot = value_at form word slot.reference (place + slot.offset)

-- the object that an item is, named by its place, with what the words hold
abbrev pub object_in : List TypeRow → (ℕ → ℕ) → Item → Object
object_in rows word i = record {
  name = i.place;
  place = i.place;
  type = i.type_id.0;
  len = i.len;
  slots = map (slot_value (form_at rows i.type_id.0) word i.place) (slots_of (form_at rows i.type_id.0) i.len);
  suppressed = has_suppressed_bit (word (i.place - 8));
}

-- ---- the heap

-- the objects among items
abbrev pub objects_among : List TypeRow → (ℕ → ℕ) → List Item → List Object
objects_among rows word items = map (object_in rows word) (filter is_object items)

-- an object among the items stands at the place
abbrev pub StandsAmong : List TypeRow → (ℕ → ℕ) → List Item → ℕ → Type 0
StandsAmong rows word items place = (o : Object) × IsIn o (objects_among rows word items) × (o.place ≡ place)

-- the ranges of the free items among items
abbrev pub free_among : List Item → List Piece
free_among items = map item_piece (filter is_free items)

-- the objects of the heap, by rising place
abbrev pub objects_in : List TypeRow → HeapView → List Object
objects_in rows h = objects_among rows (word_of h) (heap_items rows h)

-- the ranges of the heap's free items, by rising place
abbrev pub free_in : List TypeRow → HeapView → List Piece
free_in rows h = free_among (heap_items rows h)

-- the layout of the heap, its free items told
abbrev pub layout_in : List TypeRow → HeapView → Layout
layout_in rows h = record (frame h) { free = free_in rows h }

-- the end of the ephemeral segment, where the next object is to be born
abbrev pub tail_of : HeapView → ℕ
tail_of h = (ephemeral (frame h)).end

-- the head of free space stands at a place: a clear header, and the method table word of free space, without a mark
abbrev pub IsFreeHead : (ℕ → ℕ) → ℕ → Type 0
IsFreeHead word place = (word (place - 8) ≡ 0) × (word place ≡ mt_of 0)

-- each free item among items has such a head
abbrev pub HaveFreeHeads : (ℕ → ℕ) → List Item → Type 0
HaveFreeHeads word items = (i : Item) → IsIn i items → is_free i ≡ true → IsFreeHead word i.place

-- and so has each free item of the heap
abbrev pub AreFreeHeads : List TypeRow → HeapView → Type 0
AreFreeHeads rows h = HaveFreeHeads (word_of h) (heap_items rows h)

-- A range is what is left of a context: a part of the ephemeral segment, of generation 0, whose words are clear.
pub record IsContext (rows : List TypeRow) (h : HeapView) (r : Piece) : Type 0 where
  pub among : (k : ℕ) → k < length h.segments → (segment_at h k).kind ≡ Ephemeral
      → Among (parts_of rows h k) (rest_part r.place (piece_end r))
  pub young : h.start0 ≤ r.place
  pub clear : (b : ℕ) → b % 8 ≡ 0 → r.place ≤ b + 8 → b + 8 < piece_end r → word_of h b ≡ 0

-- The words of a heap hold a machine's objects: the parts of each segment fill it, and what is left of each thread's
-- context is one of them, another for each thread. Generation 0 doesn't begin above the tail.
pub record IsHeld (rows : List TypeRow) (h : HeapView) : Type 0 where
  pub walkable : AreWalkable rows h
  pub contexts : (i : ℕ) (r : Piece) → get_or h.rests i None ≡ Some r → IsContext rows h r
  pub apart : (i j : ℕ) (r q : Piece) → get_or h.rests i None ≡ Some r → get_or h.rests j None ≡ Some q
      → r.place ≡ q.place → i ≡ j
  pub young : h.start0 ≤ tail_of h

-- every word of the cells of the objects that there were is as before: headers, slots and padding, and no mark comes or
-- goes
abbrev pub KeepsObjects : List TypeRow → HeapView → HeapView → Type 0
KeepsObjects rows old new =
    (i : Item) (b : ℕ) → IsIn i (heap_items rows old) → is_object i ≡ true → b % 8 ≡ 0 → i.place ≤ b + 8
    → b + 8 < i.place + i.size → word_of new b ≡ word_of old b

-- ---- births

-- the object that is new at a place: its references are null, and its numbers 0
abbrev pub newborn_at : List TypeRow → ℕ → ℕ → ℕ → Object
newborn_at rows place t n =
    record {
      name = place;
      place = place;
      type = t;
      len = n;
      slots = empty_slots (form_at rows t) n;
      suppressed = false;
    }

-- The old heap with one object more at the front of a thread's context, of which the rest is left. Objects by rising
-- place.
pub record HasNewborn (rows : List TypeRow) (old new : HeapView) (thread t n : ℕ) : Type 0 where
  pub objects : objects_in rows new
      ≡ sorted_by (λ o. o.name) (objects_in rows old ++ newborn_at rows (context_front (frame old) thread) t n ∷ [])
  pub layout : layout_in rows new ≡ front_taken (layout_in rows old) thread (size_of (form_at rows t) n)
  pub heap : IsHeap new
  pub held : IsHeld rows new

-- ---- contexts

-- The old heap where the thread has a new context, from a free item of generation 0 or from the tail, for which the
-- size is asked.
pub record HasRefilled (rows : List TypeRow) (old new : HeapView) (thread size : ℕ) : Type 0 where
  pub objects : objects_in rows new ≡ objects_in rows old
  pub layout : IsRefilled (layout_in rows old) thread size (layout_in rows new)
  pub cells : KeepsObjects rows old new
  pub free_heads : AreFreeHeads rows old → AreFreeHeads rows new
  pub clean : AreClean rows old → AreClean rows new
  pub limit : new.limit ≡ old.limit
  pub heap : IsHeap new
  pub held : IsHeld rows new

-- the old heap where every context is given up
pub record HasGivenUp (rows : List TypeRow) (old new : HeapView) : Type 0 where
  pub objects : objects_in rows new ≡ objects_in rows old
  pub layout : layout_in rows new ≡ all_given_up (layout_in rows old)
  pub cells : KeepsObjects rows old new
  pub free_heads : AreFreeHeads rows old → AreFreeHeads rows new
  pub clean : AreClean rows old → AreClean rows new
  pub limit : new.limit ≡ old.limit
  pub heap : IsHeap new
  pub held : IsHeld rows new

-- ---- stores

-- slot j of the object that an item of the heap is, where it is a whole word, a reference or a number
pub record IsWordSlot (rows : List TypeRow) (h : HeapView) (i : Item) (j : ℕ) (reference : Bool) : Type 0 where
  pub listed : IsIn i (heap_items rows h)
  pub words : is_bytes (form_at rows i.type_id.0) ≡ false
  pub kind : slice_get (slot_kinds (form_at rows i.type_id.0) i.len) j ≡ Some reference

-- slot j of an array of bytes that an item of the heap is
pub record IsByteSlot (rows : List TypeRow) (h : HeapView) (i : Item) (j : ℕ) : Type 0 where
  pub listed : IsIn i (heap_items rows h)
  pub bytes : is_bytes (form_at rows i.type_id.0) ≡ true
  pub inside : j < i.len

-- where it stands
abbrev pub slot_address : List TypeRow → Item → ℕ → ℕ
slot_address rows i j = i.place + slot_offset (form_at rows i.type_id.0) j

-- The old heap, where slot j of the object at a place has another value.
pub record HasStored (rows : List TypeRow) (old new : HeapView) (place j : ℕ) (value : Value) : Type 0 where
  pub objects : objects_in rows new ≡ changed_by (λ o. o.name) place (with_slot_of j value) (objects_in rows old)
  pub items : heap_items rows new ≡ heap_items rows old
  pub layout : layout_in rows new ≡ layout_in rows old
  pub held : IsHeld rows new
