-- The limit of a heap, which no line changes.
use Rattle.std.proofs.Common.{◌≡◌, ◌∙◌, ℕ, List, refl, ap, Bool, true, false, if◌then◌else◌}
use Rattle.clr_types.specs.Types.{TypeRow, Form, bytes_form, class_form, form_at, is_array, references_form}
use Rattle.clr_types.specs.Types.{structs_form}
use Rattle.clr_types.specs.declared.item.Item.{Item}
use Rattle.clr_types.specs.declared.shape.Slot.{Slot}
use Rattle.clr_heap.specs.View.{HeapView, placed}
use Rattle.clr_view.specs.Births.{with_newborn}
use Rattle.clr_view.specs.SlotValues.{with_value, with_value_at}

-- heaps that differ in their words alone have one limit
value_limit : (form : Form) (h : HeapView) (a v : ℕ) → (with_value_at form h a v).limit ≡ h.limit
value_limit (class_form pattern) h a v = refl
value_limit references_form h a v = refl
value_limit bytes_form h a v = refl
value_limit (structs_form pattern) h a v = refl

-- a slot was written
pub stored_limit : (rows : List TypeRow) (old new : HeapView) (i : Item) (slot : Slot) (v : ℕ)
    → new ≡ with_value rows old i slot v → new.limit ≡ old.limit
stored_limit rows old new i slot v words =
    ap (λ (h : HeapView). h.limit) words ∙ value_limit (form_at rows i.type_id.0) old _ v

-- one of two heaps of the same limit
either_limit : (b : Bool) (x y : HeapView) (k : ℕ) → x.limit ≡ k → y.limit ≡ k → (if b then x else y).limit ≡ k
either_limit true x y k first second = first
either_limit false x y k first second = second

-- an object was born
pub born_limit : (rows : List TypeRow) (old new : HeapView) (thread t n : ℕ) → new ≡ with_newborn rows old thread t n
    → new.limit ≡ old.limit
unfolding placed
born_limit rows old new thread t n words =
    ap (λ (h : HeapView). h.limit) words ∙ either_limit (is_array (form_at rows t)) _ _ old.limit refl refl
