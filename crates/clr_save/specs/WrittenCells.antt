-- The cells of items in the memory of an image: what their words are, and when they are lawful.
use Rattle.std.specs.Prelude.{◌≡◌, ℕ, ◌+◌, ◌-◌, ◌%◌, ◌≤◌, ◌<◌, List, [], ◌∷◌, length, Some, true, false, ◌||◌, ◌==◌}
use Rattle.clr_mem.specs.Words.{byte_of}
use Rattle.clr_types.specs.Types.{form_at, has_finalizer, is_array, mt_of, size_of, type_row}
use Rattle.clr_types.specs.declared.item.Item.{Item}
use Rattle.clr_heap.specs.Memories.{word_address}
use Rattle.clr_heap.specs.Parts.{made_item}
use Rattle.clr_sos.specs.CheckedCells.{is_header, is_length, is_whole, may_hold, padding_from, Rules, Words}

-- the words of a cell are there, from the header of its item on
abbrev pub HasCell : Words → (ℕ → ℕ) → ℕ → ℕ → Type 0
HasCell words word place size = (a : ℕ) → a % 8 ≡ 0 → place ≤ a + 8 → a + 16 ≤ place + size → words a ≡ Some (word a)

-- the words of the cell of an item of this type and length
pub record IsCell (rules : Rules) (word : ℕ → ℕ) (place t len : ℕ) : Type 0 where
  pub aligned : place % 8 ≡ 0
  pub above : 8 ≤ place
  pub header : is_header (word (place - 8)) ≡ true
  pub final : (word (place - 8) == 0) || has_finalizer (type_row rules.rows t) ≡ true
  pub known : t ≤ length rules.rows
  pub mt : word place ≡ mt_of t
  pub held : may_hold rules.kind (form_at rules.rows t) ≡ true
  pub length_word : is_array (form_at rules.rows t) ≡ true → word (place + 8) ≡ len
  pub no_length : is_array (form_at rules.rows t) ≡ false → len ≡ 0
  pub length_fits : is_length rules.rows t len ≡ true
  pub whole : is_whole rules place t (size_of (form_at rules.rows t) len) ≡ true
  pub padding : (a : ℕ) → padding_from rules place t len ≤ a → place + 8 ≤ a
      → a + 8 < place + size_of (form_at rules.rows t) len → byte_of (word (word_address a)) (a % 8) ≡ 0

-- items one behind the other, from a place to the end
abbrev pub AreCells : Rules → (ℕ → ℕ) → ℕ → List Item → Type 0
AreCells rules word place [] = place ≡ rules.end
AreCells rules word place (i ∷ items) =
    (place < rules.end) × (i ≡ made_item rules.rows place i.type_id.0 i.len)
    × IsCell rules word place i.type_id.0 i.len × AreCells rules word (place + i.size) items
