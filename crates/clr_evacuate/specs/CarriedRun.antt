-- A run of objects side by side that is carried into a free item below it, object by object.
use Rattle.std.specs.Prelude.{◌≡◌, ◌⊎◌, ℕ, ◌+◌, ◌-◌, ◌%◌, ◌<◌, ◌≤◌, Bool, true, false, if◌then◌else◌, ◌&&◌, List}
use Rattle.std.specs.Prelude.{[], ◌∷◌, ◌++◌, map, nat_le, nat_lt}
use Rattle.std.specs.List.{AllByRecursion}
use Rattle.clr_types.specs.Ranges.{by_place, fits, Piece, piece_end}
use Rattle.clr_types.specs.Rising.{IsIn, sorted_by}
use Rattle.clr_types.specs.Types.{TypeRow}
use Rattle.clr_types.specs.declared.item.Item.{Item}
use Rattle.clr_heap.specs.Parts.{item_piece}
use Rattle.clr_heap.specs.View.{heap_items, HeapView, SameShape, word_of}
use Rattle.clr_model.specs.Allocation.{taken_from}
use Rattle.clr_model.specs.Compaction.{Move}
use Rattle.clr_model.specs.Machine.{Object}
use Rattle.clr_view.specs.Memory.{is_marked}
use Rattle.clr_view.specs.View.{free_in, IsHeld, is_object, layout_in, objects_in}
use Rattle.clr_moves.specs.Objects.{moved_object}
use Rattle.clr_evacuate.specs.Carried.{ArePadded, IsUnmovedIn}
use Rattle.clr_evacuate.specs.Fittings.{AreSideBySide}
use Rattle.clr_evacuate.specs.Forwards.{HasForwards}

-- objects side by side that fill a range, and a free item below it in which they fit together
pub record CanCarryRun (rows : List TypeRow) (h : HeapView) (run : List Item) (plug item : Piece) : Type 0 where
  pub listed : AllByRecursion (λ (i : Item). IsIn i (heap_items rows h)) run
  pub objects : AllByRecursion (λ (i : Item). is_object i ≡ true) run
  pub side_by_side : AreSideBySide plug.place run (piece_end plug)
  pub least : 24 ≤ plug.size
  pub free : IsIn item (free_in rows h)
  pub lower : item.place < plug.place
  pub within : fits plug.size item.size ≡ true

-- a place is in a range
abbrev pub is_within : Piece → ℕ → Bool
is_within p x = nat_le p.place x && nat_lt x (piece_end p)

-- where a range goes, as the one move of a list
abbrev pub run_of : Piece → ℕ → List Move
run_of plug to = record { start = plug.place; size = plug.size; to = to } ∷ []

-- where places go, and those of the range there, too
abbrev pub going_along : (ℕ → ℕ) → Piece → ℕ → ℕ → ℕ
going_along go plug to x = if is_within plug x then to + (x - plug.place) else go x

-- The old heap with the run at the item's front. Slots, headers, and all other objects, are as they were. What is left
-- of the item is free, and so is where each object stood, which says where it went. None of them is marked any more,
-- and all others are as they were. Padding stays zero.
pub record HasCarriedRun (rows : List TypeRow) (old new : HeapView) (run : List Item) (plug item : Piece) : Type 0 where
  pub objects : objects_in rows new
      ≡ sorted_by (λ o. o.name) (map (moved_object (run_of plug item.place)) (objects_in rows old))
  pub layout : layout_in rows new
      ≡ record (layout_in rows old) {
        free = by_place (taken_from item.place plug.size (free_in rows old) ++ map item_piece run);
      }
  pub marks : (o : Object) → IsIn o (objects_in rows old)
      → is_marked new (moved_object (run_of plug item.place) o)
      ≡ (if is_within plug o.place then false else is_marked old o)
  pub words : (b : ℕ) → b % 8 ≡ 0 → (b + 8 < item.place) ⊎ (piece_end item ≤ b + 8)
      → (b + 8 < plug.place) ⊎ (piece_end plug ≤ b + 8) → word_of new b ≡ word_of old b
  pub headers : (o : Object) → IsIn o (objects_in rows old)
      → word_of new ((moved_object (run_of plug item.place) o).place - 8) ≡ word_of old (o.place - 8)
  pub padding : ArePadded rows old → ArePadded rows new
  pub forwards : (go : ℕ → ℕ) → HasForwards rows old go → IsUnmovedIn go item
      → HasForwards rows new (going_along go plug item.place)
  pub shape : SameShape old new
  pub held : IsHeld rows new
