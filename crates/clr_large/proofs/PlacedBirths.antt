-- What an index that is kept lists, and what a birth in a segment of a kind tells of bricks and cards.
use Rattle.std.proofs.Common.{◌≡◌, ℕ, Bool, true, List, ap, sym, ◌∙◌, subst, if◌then◌else◌}
use Rattle.std.proofs.Common.{Option, Some, None}
use Rattle.clr_types.specs.Rising.{IsRisingBy}
use Rattle.clr_types.specs.Types.{TypeRow}
use Rattle.clr_types.specs.Ranges.{Piece}
use Rattle.clr_types.specs.declared.segment.SegKind.{SegKind}
use Rattle.clr_heap.specs.View.{HeapView, IsHeap}
use Rattle.clr_view.specs.View.{IsHeld, layout_in}
use Rattle.clr_generations.proofs.AddedObjects.{HasOneMore}
use Rattle.clr_items.proofs.Lists.{place}
use Rattle.clr_large.specs.Births.{HasNewbornIn}
use Rattle.clr_large.specs.Places.{IsKindIndex, kind_items}
use Rattle.clr_large.proofs.KindLists.{kind_rise}

-- the items of an index that is kept rise
pub index_rises : (group : SegKind) (rows : List TypeRow) (h : HeapView) (index : Option (List Piece))
    (items : List Piece)
    (complete : Bool) → IsHeap h → IsHeld rows h → IsKindIndex group rows h index
    → (if complete then Some items else None) ≡ index → complete ≡ true → IsRisingBy place items
index_rises group rows h index items complete heap held is view all =
    let kept : index ≡ Some items = sym view ∙ ap (λ (b : Bool). if b then Some items else None) all in
    let same : items ≡ kind_items group (layout_in rows h) = subst (IsKindIndex group rows h) kept is in
    subst (IsRisingBy place) (sym same) (kind_rise group rows h heap held)

-- the heap has one object more
pub one_more : (group : SegKind) (rows : List TypeRow) (old new : HeapView) (place t n : ℕ) → IsHeap old
    → IsHeld rows old → HasNewbornIn group rows old new place t n → HasOneMore rows old new place t n
one_more group rows old new place t n before held born = record {
  before = before;
  after = born.heap;
  held = held;
  now_held = born.held;
  objects = born.objects;
}
