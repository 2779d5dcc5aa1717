-- What holds of the heap and its tables between two phases of a collection.
use Rattle.std.specs.Prelude.{List}
use Rattle.clr_types.specs.Types.{TypeRow}
use Rattle.clr_heap.specs.View.{IsHeap}
use Rattle.clr_view.specs.Clean.{AreClean}
use Rattle.clr_view.specs.View.{AreFreeHeads, IsHeld}
use Rattle.clr_generations.specs.Tables.{AreTablesOf}
use Rattle.clr_generations.specs.declared.space.Space.{Space}

-- The heap is lawful and held, headers and padding are clean, no free item's head is marked, and cards and bricks obey
-- their laws.
pub record IsTidy (rows : List TypeRow) (s : Space) : Type 0 where
  pub heap : IsHeap s.heap
  pub held : IsHeld rows s.heap
  pub clean : AreClean rows s.heap
  pub free_heads : AreFreeHeads rows s.heap
  pub tables : AreTablesOf rows s.heap s.cards s.bricks
