-- Heaps that differ from a lawful one in words and contexts alone: they are lawful, too.
use Rattle.std.proofs.Common.{◌≡◌, ℕ, ◌-◌, List, length, length-set, subst, sym, Bool, true, false, if◌then◌else◌}
use Rattle.clr_types.specs.Types.{TypeRow, Form, bytes_form, class_form, form_at, is_array, references_form}
use Rattle.clr_types.specs.Types.{structs_form}
use Rattle.clr_types.specs.declared.item.Item.{Item}
use Rattle.clr_types.specs.declared.shape.Slot.{Slot}
use Rattle.clr_heap.specs.View.{frame, HeapView, IsHeap, placed, SameShape}
use Rattle.clr_heap.proofs.Rewrite.{SameShape-refl, SameShape-stored, shaped_heap}
use Rattle.clr_view.specs.Births.{with_newborn}
use Rattle.clr_view.specs.Flags.{with_flag_at}
use Rattle.clr_view.specs.SlotValues.{with_value, with_value_at}
use Rattle.clr_model.specs.Allocation.{context_front}
use Rattle.clr_view.proofs.Born.{heap-rested}

value_shape : (form : Form) (h : HeapView) (a v : ℕ) → SameShape h (with_value_at form h a v)
value_shape (class_form pattern) h a v = SameShape-stored h h a v (SameShape-refl h)
value_shape references_form h a v = SameShape-stored h h a v (SameShape-refl h)
value_shape bytes_form h a v = SameShape-stored h h _ _ (SameShape-refl h)
value_shape (structs_form pattern) h a v = SameShape-stored h h a v (SameShape-refl h)

-- a slot was written
pub stored_heap : (rows : List TypeRow) (old new : HeapView) (i : Item) (slot : Slot) (v : ℕ)
    → new ≡ with_value rows old i slot v → IsHeap old → IsHeap new
stored_heap rows old new i slot v words heap =
    subst IsHeap (sym words)
    (shaped_heap old (with_value rows old i slot v) (value_shape (form_at rows i.type_id.0) old _ v) heap)

-- a finaliser was suppressed, or isn't any more
pub flagged_heap : (old new : HeapView) (place : ℕ) (flag : Bool) → new ≡ with_flag_at old place flag → IsHeap old
    → IsHeap new
flagged_heap old new place flag words heap =
    subst IsHeap (sym words)
    (shaped_heap old (with_flag_at old place flag) (SameShape-stored old old _ _ (SameShape-refl old)) heap)

-- one of two heaps of the same shape
either_shape : (b : Bool) (h x y : HeapView) → SameShape h x → SameShape h y → SameShape h (if b then x else y)
either_shape true h x y first second = first
either_shape false h x y first second = second

-- the head of an item was written
placed_shape : (rows : List TypeRow) (h : HeapView) (a t n : ℕ) → SameShape h (placed rows h a t n)
unfolding placed
placed_shape rows h a t n =
    let two = SameShape-stored h _ _ _ (SameShape-stored h h _ _ (SameShape-refl h)) in
    either_shape (is_array (form_at rows t)) h _ _ (SameShape-stored h _ _ _ two) two

-- an object was born at the front of a context
pub born_heap : (rows : List TypeRow) (old new : HeapView) (thread t n : ℕ) → new ≡ with_newborn rows old thread t n
    → IsHeap old → IsHeap new
born_heap rows old new thread t n words heap =
    subst IsHeap (sym words)
    (heap-rested old (placed rows old (context_front (frame old) thread) t n) _ heap (placed_shape rows old _ t n)
    (length-set old.rests (thread - 1) _))
