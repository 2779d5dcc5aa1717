-- The words of objects that are no slot: headers say nothing but that a finaliser is suppressed, and padding is zero.
use Rattle.std.specs.Prelude.{◌≡◌, ℕ, ◌+◌, ◌-◌, ◌*◌, ◌%◌, ◌<◌, ◌≤◌, ◌⊎◌, true, List, length}
use Rattle.clr_types.specs.Bits.{suppressed_bit}
use Rattle.clr_mem.specs.Words.{byte_of}
use Rattle.clr_types.specs.Rising.{IsIn}
use Rattle.clr_types.specs.Types.{TypeRow, Form, class_form, references_form, bytes_form, structs_form, form_at}
use Rattle.clr_types.specs.Types.{has_finalizer, type_row}
use Rattle.clr_types.specs.declared.item.Item.{Item}
use Rattle.clr_heap.specs.Memories.{word_address}
use Rattle.clr_heap.specs.View.{heap_items, HeapView, word_of}
use Rattle.clr_view.specs.Items.{is_object}

-- how far from its place the slots of an object end; what follows is padding
abbrev pub slots_end : Form → ℕ → ℕ
slots_end (class_form pattern) len = 8 + 8 * length pattern
slots_end references_form len = 16 + 8 * len
slots_end bytes_form len = 16 + len
slots_end (structs_form pattern) len = 16 + 8 * (length pattern * len)

-- the header of an object of type t is zero, or says that its finaliser is suppressed, where its type has one
abbrev pub IsCleanHeader : List TypeRow → ℕ → ℕ → Type 0
IsCleanHeader rows t header = (header ≡ 0) ⊎ ((header ≡ suppressed_bit) × (has_finalizer (type_row rows t) ≡ true))

-- the bytes from low on and below high are zero
abbrev pub AreZero : (ℕ → ℕ) → ℕ → ℕ → Type 0
AreZero word low high = (a : ℕ) → low ≤ a → a < high → byte_of (word (word_address a)) (a % 8) ≡ 0

-- an object's header and its padding, which goes on to the end of its cell
pub record HasCleanWords (rows : List TypeRow) (word : ℕ → ℕ) (i : Item) : Type 0 where
  pub header : IsCleanHeader rows i.type_id.0 (word (i.place - 8))
  pub padding : AreZero word (i.place + slots_end (form_at rows i.type_id.0) i.len) (i.place + i.size - 8)

-- so it is with each object among items
abbrev pub HaveCleanWords : List TypeRow → (ℕ → ℕ) → List Item → Type 0
HaveCleanWords rows word items = (i : Item) → IsIn i items → is_object i ≡ true → HasCleanWords rows word i

-- and with each object of the heap
abbrev pub AreClean : List TypeRow → HeapView → Type 0
AreClean rows h = HaveCleanWords rows (word_of h) (heap_items rows h)
