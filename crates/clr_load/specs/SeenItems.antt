-- A heap that was read, and its objects.
use Rattle.std.specs.Prelude.{◌≡◌, List}
use Rattle.clr_types.specs.declared.item.Item.{Item}
use Rattle.clr_heap.specs.View.{heap_items, IsHeap, no_rests}
use Rattle.clr_view.specs.View.{IsHeld}
use Rattle.clr_load.specs.KnownStarts.{AreStarts}
use Rattle.clr_load.specs.declared.seen.Seen.{Seen}

-- its items
abbrev pub items_seen : Seen → List Item
items_seen s = heap_items s.types.now s.heap.now

-- items fill the heap, in which no thread has a context, and the starts are those of the objects among them
pub record IsSeen (s : Seen) : Type 0 where
  pub heap : IsHeap s.heap.now
  pub held : IsHeld s.types.now s.heap.now
  pub alone : s.heap.now.rests ≡ no_rests
  pub starts : AreStarts s.starts.now (items_seen s)
