-- Whether the finalisers of objects are suppressed, which their headers say.
use Rattle.std.specs.Prelude.{◌≡◌, ℕ, ◌-◌, ◌↔◌, Bool, List}
pub use Rattle.clr_types.specs.Bits.{flagged}
use Rattle.clr_types.specs.Types.{TypeRow, has_finalizer, type_row}
use Rattle.clr_types.specs.Rising.{changed_by}
use Rattle.clr_heap.specs.View.{heap_items, HeapView, stored, word_of}
use Rattle.clr_model.specs.Lookups.{object_named, type_of_object}
use Rattle.clr_model.specs.Reach.{suppressed_or_none}
use Rattle.clr_model.specs.Updates.{with_flag_of}
use Rattle.clr_view.specs.Marks.{Marked}
use Rattle.clr_view.specs.View.{IsHeld, layout_in, objects_in}

-- whether the object at the place is of a type that has a finaliser
abbrev pub is_final_at : List TypeRow → HeapView → ℕ → Bool
is_final_at rows h place = has_finalizer (type_row rows (type_of_object (object_named (objects_in rows h) place)))

-- whether the finaliser of the object at the place is suppressed
abbrev pub is_suppressed_at : List TypeRow → HeapView → ℕ → Bool
is_suppressed_at rows h place = suppressed_or_none (object_named (objects_in rows h) place)

-- the heap in which the header of the object at the place says this
abbrev pub with_flag_at : HeapView → ℕ → Bool → HeapView
with_flag_at h place flag = stored h (place - 8) (flagged flag (word_of h (place - 8)))

-- The old heap, where the finaliser of the object at the place is suppressed, or isn't.
pub record HasFlagged (rows : List TypeRow) (old new : HeapView) (place : ℕ) (flag : Bool) : Type 0 where
  pub objects : objects_in rows new ≡ changed_by (λ o. o.name) place (with_flag_of flag) (objects_in rows old)
  pub items : heap_items rows new ≡ heap_items rows old
  pub layout : layout_in rows new ≡ layout_in rows old
  pub marks : (x : ℕ) → Marked rows new x ↔ Marked rows old x
  pub held : IsHeld rows new
