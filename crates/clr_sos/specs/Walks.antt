-- What a walk over the whole heap has left.
use Rattle.std.specs.Prelude.{◌≡◌, ℕ, ◌-◌, ◌≤◌, List, ◌++◌, length}
use Rattle.clr_types.specs.Types.{TypeRow}
use Rattle.clr_types.specs.declared.item.Item.{Item}
use Rattle.clr_heap.specs.View.{AreWalkable, HeapView, listings}

-- the items that are left of a segment, and those of all from the next one on
abbrev pub ahead : List Item → List TypeRow → HeapView → ℕ → ℕ → List Item
ahead left rows h next count = left ++ listings rows h next (count - next)

pub record AreAhead (rows : List TypeRow) (h : HeapView) (next count : ℕ) : Type 0 where
  pub walkable : AreWalkable rows h
  pub all : count ≡ length h.segments
  pub some : next ≤ count
