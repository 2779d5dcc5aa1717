-- Where a new context comes from, the index of the young free items, and what a change of contexts leaves.
use Rattle.std.specs.Prelude.{◌≡◌, ℕ, List, filter, find, IfSome, if◌then◌else◌, Option, None, Some}
use Rattle.clr_types.specs.Types.{TypeRow}
use Rattle.clr_types.specs.Ranges.{Piece, fits}
use Rattle.clr_types.specs.Segments.{ephemeral, fits_in_tail, Layout}
use Rattle.clr_heap.specs.View.{heap_items, HeapView, IsHeap}
use Rattle.clr_model.specs.Allocation.{from_item, from_tail, is_young_item, want}
use Rattle.clr_model.specs.Updates.{given_up}
use Rattle.clr_view.specs.Clean.{AreClean}
use Rattle.clr_view.specs.View.{AreFreeHeads, is_object, IsHeld, KeepsObjects, layout_in, objects_in}

-- the free items of generation 0, by rising place
abbrev pub young_items : Layout → List Piece
young_items layout = filter (is_young_item layout) layout.free

-- the first of them in which a size fits
abbrev pub first_fit : Layout → ℕ → Option Piece
first_fit layout size = find (λ p. fits size p.size) (young_items layout)

-- how many bytes of a free item a context takes that is asked for a size
abbrev pub share : ℕ → ℕ → ℕ
share size bytes = if fits (want size) bytes then want size else bytes

-- how many bytes of the tail it takes
abbrev pub tail_share : Layout → ℕ → ℕ
tail_share layout size = if fits_in_tail (ephemeral layout) (want size) then want size else size

-- the layout with a context for the thread, from a free item where one is given, else from the tail
abbrev pub with_context : Layout → ℕ → ℕ → Option Piece → Layout
with_context layout t size None = from_tail layout t (tail_share layout size)
with_context layout t size (Some item) = from_item layout t item (share size item.size)

-- A refill: the thread's context is given up, and the new one comes from the first young free item in which the size
-- fits, and from the tail where there is none.
abbrev pub refilled : Layout → ℕ → ℕ → Layout
refilled layout t size = with_context (given_up layout t) t size (first_fit layout size)

-- the index, where it is kept, lists the free items of generation 0
abbrev pub IsIndex : List TypeRow → HeapView → Option (List Piece) → Type 0
IsIndex rows h index = IfSome index (λ ps. ps ≡ young_items (layout_in rows h))

-- The old heap with all its objects, where its layout is another.
pub record IsRelaid (rows : List TypeRow) (old new : HeapView) (laid : Layout) : Type 0 where
  pub heap : IsHeap new
  pub kept : filter is_object (heap_items rows new) ≡ filter is_object (heap_items rows old)
  pub objects : objects_in rows new ≡ objects_in rows old
  pub layout : layout_in rows new ≡ laid
  pub cells : KeepsObjects rows old new
  pub free_heads : AreFreeHeads rows old → AreFreeHeads rows new
  pub clean : AreClean rows old → AreClean rows new
  pub limit : new.limit ≡ old.limit
  pub held : IsHeld rows new
