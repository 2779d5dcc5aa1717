-- The checks of a line that works on a slot, as they are made over the heap.
use Rattle.std.specs.Prelude.{◌≡◌, ◌≢◌, ◌≤◌, ℕ, Bool, true, false, not, List, length, Result, Ok, Err}
use Rattle.clr_types.specs.Types.{TypeRow, form_at, slot_kinds}
use Rattle.clr_types.specs.declared.item.Item.{Item}
use Rattle.clr_types.specs.declared.shape.Slot.{Slot}
use Rattle.clr_heap.specs.View.{HeapView}
use Rattle.clr_view.specs.SlotValues.{IsObjectAt, IsSlot}
use Rattle.clr_model.specs.declared.Refusal.{Refusal}
use Rattle.clr_model.specs.declared.Refusal.TheVariants.{Index, IsReference, NotReference, Null}
use Rattle.clr_runtime.specs.declared.slots.FoundSlot.{FoundSlot}

-- slot j of the object that stands at the place
pub record HasItsSlot (rows : List TypeRow) (h : HeapView) (place j : ℕ) (i : Item) (s : Slot) : Type 0 where
  pub some : place ≢ 0
  pub object : IsObjectAt rows h place i
  pub slot : IsSlot rows i j s

-- an object stands at the place, and has no slot j
pub record LacksSlot (rows : List TypeRow) (h : HeapView) (place j : ℕ) : Type 0 where
  pub some : place ≢ 0
  pub item : Item
  pub object : IsObjectAt rows h place item
  pub beyond : length (slot_kinds (form_at rows item.type_id.0) item.len) ≤ j

-- slot j of the object at the place holds a number where a reference is wanted, or the other way round
pub record HasOtherKind (rows : List TypeRow) (h : HeapView) (place j : ℕ) (wants : Bool) : Type 0 where
  pub item : Item
  pub slot : Slot
  pub there : HasItsSlot rows h place j item slot
  pub other : slot.reference ≡ not wants

-- the first of the checks on a local's object and its slot that fails, or the slot
abbrev pub IsFound : List TypeRow → HeapView → ℕ → ℕ → Bool → Result FoundSlot Refusal → Type 0
IsFound rows h place j wants (Ok found) =
    HasItsSlot rows h place j found.item found.slot × (found.slot.reference ≡ wants)
IsFound rows h place j wants (Err Null) = place ≡ 0
IsFound rows h place j wants (Err Index) = LacksSlot rows h place j
IsFound rows h place j wants (Err NotReference) = (wants ≡ true) × HasOtherKind rows h place j wants
IsFound rows h place j wants (Err IsReference) = (wants ≡ false) × HasOtherKind rows h place j wants
IsFound rows h place j wants (Err _) = ⊥
