-- Whether an object whose type has a finalizer stands at a place, by the bits of a window and the words of the heap.
use Rattle.std.proofs.Common.{◌≡◌, ℕ, ◌≤◌, Bool, true, false, List, length, sym, ◌∙◌, ap, arith}
use Rattle.clr_types.specs.Types.{has_finalizer, type_row, TypeRow}
use Rattle.clr_types.specs.declared.item.Item.{Item}
use Rattle.clr_heap.specs.Parts.{item_at}
use Rattle.clr_heap.specs.View.{heap_items, HasItem, HeapView, word_of}
use Rattle.clr_sos.specs.JudgedTables.{is_final}
use Rattle.clr_sos.specs.Steps.{is_final_object}
use Rattle.clr_sos.specs.Windows.{in_window, IsJudging, marked_at}
use Rattle.clr_sos.specs.declared.verify.windows.Window.{Window}
use Rattle.clr_sos.proofs.JudgedNames.{marked_is}
use Rattle.clr_sos.proofs.PlacedItems.{IsThere, no_object, there_stands}

module _ (rows : List TypeRow) (h : HeapView) (window : Window) (bits : List ℕ) (j : IsJudging rows h window bits)
    (x : ℕ) (judged : in_window window x ≡ true) where
  pub unmarked_unfinal : marked_at window bits x ≡ false → is_final rows (heap_items rows h) x ≡ false
  unmarked_unfinal off =
      ap (is_final_object rows)
      (no_object (heap_items rows h) x (sym (marked_is rows h window bits j x judged) ∙ off))

  abbrev there : marked_at window bits x ≡ true → (i : Item) × IsThere rows h x i
  there on = there_stands rows h j.heap j.walkable x (sym (marked_is rows h window bits j x judged) ∙ on)

  pub marked_head : marked_at window bits x ≡ true → HasItem rows h x
  marked_head on = (there on).1.head

  pub marked_known : marked_at window bits x ≡ true → (i : Item) → i ≡ item_at rows (word_of h) x
      → i.type_id.0 ≤ length rows
  marked_known on i is =
      let t = there on in
      let same : i ≡ t.0 = is ∙ sym t.1.spelled in
      let known = t.1.known in
      let type : i.type_id.0 ≡ t.0.type_id.0 = ap (λ (o : Item). o.type_id.0) same in
      omega (arith, known, type)

  pub marked_final : marked_at window bits x ≡ true → (i : Item) → i ≡ item_at rows (word_of h) x → (r : Bool)
      → r ≡ has_finalizer (type_row rows i.type_id.0) → r ≡ is_final rows (heap_items rows h) x
  marked_final on i is r e =
      let t = there on in
      let same : i ≡ t.0 = is ∙ sym t.1.spelled in
      e ∙ ap (λ (o : Item). has_finalizer (type_row rows o.type_id.0)) same ∙ sym (ap (is_final_object rows) t.1.found)
