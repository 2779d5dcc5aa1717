-- An object that is carried into a free item below it.
use Rattle.std.specs.Prelude.{◌≡◌, ◌≢◌, ◌⊎◌, ℕ, ◌+◌, ◌-◌, ◌%◌, ◌<◌, ◌≤◌, true, false, if◌then◌else◌, ◌==◌, List}
use Rattle.std.specs.Prelude.{[], ◌∷◌, ◌++◌, map}
use Rattle.clr_types.specs.Ranges.{by_place, fits, Piece, piece_end}
use Rattle.clr_types.specs.Rising.{IsIn, sorted_by}
use Rattle.clr_types.specs.Types.{form_at, mt_of, TypeRow}
use Rattle.clr_types.specs.declared.item.Item.{Item}
use Rattle.clr_heap.specs.Parts.{item_piece, unmarked}
use Rattle.clr_heap.specs.View.{heap_items, HeapView, SameShape, word_of}
use Rattle.clr_model.specs.Allocation.{taken_from}
use Rattle.clr_model.specs.Compaction.{Move}
use Rattle.clr_model.specs.Machine.{Object}
use Rattle.clr_view.specs.Clean.{AreZero, slots_end}
use Rattle.clr_view.specs.Memory.{is_marked}
use Rattle.clr_view.specs.View.{free_in, IsFreeHead, IsHeld, is_object, layout_in, objects_in}
use Rattle.clr_moves.specs.Objects.{moved_object}
use Rattle.clr_evacuate.specs.Forwards.{HasForwards}

-- ---- padding

-- the padding of each object of the heap is zero, to the end of its cell
abbrev pub ArePadded : List TypeRow → HeapView → Type 0
ArePadded rows h =
    (i : Item) → IsIn i (heap_items rows h) → is_object i ≡ true
    → AreZero (word_of h) (i.place + slots_end (form_at rows i.type_id.0) i.len) (i.place + i.size - 8)

-- ---- what may be carried

-- an object of the heap, and a free item below it in which its size fits
pub record CanCarry (rows : List TypeRow) (h : HeapView) (carried : Item) (item : Piece) : Type 0 where
  pub listed : IsIn carried (heap_items rows h)
  pub object : is_object carried ≡ true
  pub free : IsIn item (free_in rows h)
  pub lower : item.place < carried.place
  pub within : fits carried.size item.size ≡ true

-- ---- words

-- The cells of the object stand at the item's front, without a mark, and what is left of the item has the head of free
-- space. All words outside of the item stay.
pub record HasCopied (old new : HeapView) (carried : Item) (item : Piece) : Type 0 where
  pub shape : SameShape old new
  pub cells : (b : ℕ) → b % 8 ≡ 0 → item.place ≤ b + 8 → b + 8 < item.place + carried.size → b ≢ item.place
      → word_of new b ≡ word_of old (b + (carried.place - item.place))
  pub mt : word_of new item.place ≡ unmarked (word_of old carried.place)
  pub left : item.place + carried.size < piece_end item → IsFreeHead (word_of new) (item.place + carried.size)
      × (word_of new (item.place + carried.size + 8) ≡ item.size - carried.size - 24)
  pub others : (b : ℕ) → b % 8 ≡ 0 → (b + 8 < item.place) ⊎ (piece_end item ≤ b + 8) → word_of new b ≡ word_of old b

-- A free item has the object's place and size, and its header says where the object went. All other words stay.
pub record HasVacated (old new : HeapView) (carried : Item) (to : ℕ) : Type 0 where
  pub shape : SameShape old new
  pub header : word_of new (carried.place - 8) ≡ to
  pub mt : word_of new carried.place ≡ mt_of 0
  pub len : word_of new (carried.place + 8) ≡ carried.size - 24
  pub others : (b : ℕ) → b % 8 ≡ 0 → b ≢ carried.place - 8 → b ≢ carried.place → b ≢ carried.place + 8
      → word_of new b ≡ word_of old b

-- ---- what becomes of the heap

-- where an object goes, as the one move of a list
abbrev pub carry_of : Item → ℕ → List Move
carry_of carried to = record { start = carried.place; size = carried.size; to = to } ∷ []

-- where places go, and the object's there, too
abbrev pub going_there : (ℕ → ℕ) → ℕ → ℕ → ℕ → ℕ
going_there go from to x = if x == from then to else go x

-- nothing that stood in the item went elsewhere
abbrev pub IsUnmovedIn : (ℕ → ℕ) → Piece → Type 0
IsUnmovedIn go item = (x : ℕ) → item.place ≤ x → x < piece_end item → go x ≡ x

-- The old heap with the object at the item's front. Its slots, and all other objects, are as they were, and so are all
-- headers of objects. What it leaves of the item is free, and so is the range where it stood, which says where it went.
-- It isn't marked any more, and all others are as they were. Padding stays zero.
pub record HasCarried (rows : List TypeRow) (old new : HeapView) (carried : Item) (item : Piece) : Type 0 where
  pub objects : objects_in rows new
      ≡ sorted_by (λ o. o.name) (map (moved_object (carry_of carried item.place)) (objects_in rows old))
  pub layout : layout_in rows new
      ≡ record (layout_in rows old) {
        free = by_place (taken_from item.place carried.size (free_in rows old) ++ item_piece carried ∷ []);
      }
  pub marks : (o : Object) → IsIn o (objects_in rows old)
      → is_marked new (moved_object (carry_of carried item.place) o)
      ≡ (if o.place == carried.place then false else is_marked old o)
  pub words : (b : ℕ) → b % 8 ≡ 0 → (b + 8 < item.place) ⊎ (piece_end item ≤ b + 8)
      → (b + 8 < carried.place) ⊎ (carried.place + carried.size ≤ b + 8) → word_of new b ≡ word_of old b
  pub headers : (o : Object) → IsIn o (objects_in rows old)
      → word_of new ((moved_object (carry_of carried item.place) o).place - 8) ≡ word_of old (o.place - 8)
  pub padding : ArePadded rows old → ArePadded rows new
  pub forwards : (go : ℕ → ℕ) → HasForwards rows old go → IsUnmovedIn go item
      → HasForwards rows new (going_there go carried.place item.place)
  pub shape : SameShape old new
  pub held : IsHeld rows new
