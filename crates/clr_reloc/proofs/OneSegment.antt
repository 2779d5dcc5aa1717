-- All words of an item stand in the segment of its place.
use Rattle.std.proofs.Common.{◌≡◌, ℕ, ◌+◌, List, refl, sym, ◌∙◌}
use Rattle.clr_types.specs.Rising.{IsIn}
use Rattle.clr_types.specs.Types.{TypeRow}
use Rattle.clr_types.specs.declared.item.Item.{Item}
use Rattle.clr_heap.specs.Memories.{memory_index}
use Rattle.clr_heap.specs.View.{heap_items, HeapView, IsHeap, SameShape}
use Rattle.clr_heap.proofs.Storing.{memory_index-shapes}
use Rattle.clr_view.specs.View.{IsHeld}
use Rattle.clr_view.proofs.Standing.{cell_index, InCell, mt_in}
use Rattle.clr_mark.proofs.References.{reference_in}
use Rattle.clr_reloc.specs.References.{references_of}

module _ (rows : List TypeRow) (view : HeapView) (heap : IsHeap view) (held : IsHeld rows view) (i : Item)
    (listed : IsIn i (heap_items rows view)) (old now : HeapView) (before : SameShape view old)
    (after : SameShape view now) (k : ℕ) (is : k ≡ memory_index old.memories i.place) where
  -- a word of the item's cell, whatever words have changed since
  pub cell_segment : (a : ℕ) → InCell i a → k ≡ memory_index now.memories a
  cell_segment a c =
      is ∙ memory_index-shapes old.memories view.memories i.place before.memories
      ∙ cell_index rows view heap held i i.place listed (mt_in rows view heap held i listed)
      ∙ sym (cell_index rows view heap held i a listed c)
      ∙ sym (memory_index-shapes now.memories view.memories a after.memories)

  -- a reference of it
  pub slot_segment : (offset : ℕ) → IsIn offset (references_of rows i)
      → k ≡ memory_index now.memories (i.place + offset)
  slot_segment offset r =
      cell_segment (i.place + offset) (reference_in rows view heap held i.place i listed refl offset r)
