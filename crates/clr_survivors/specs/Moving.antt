-- What a collection's moves need, and what they leave alone of what lies beside the heap.
use Rattle.std.specs.Prelude.{◌≡◌, ℕ, ◌+◌, ◌≤◌, [], length, true}
use Rattle.clr_handles.specs.Tables.{Table}
use Rattle.clr_handles.specs.Tops.{pinned_in}
use Rattle.clr_heap.specs.View.{no_rests}
use Rattle.clr_mark.specs.Marks.{is_condemned_place}
use Rattle.clr_model.specs.Lawful.{IsLaid}
use Rattle.clr_model.specs.Machine.{Machine}
use Rattle.clr_model.specs.Reach.{SlotNames}
use Rattle.clr_pinq.specs.Queue.{QueueView}
use Rattle.clr_view.specs.Marks.{Marked}
use Rattle.clr_view.specs.Memory.{IsMemoryOf}
use Rattle.clr_view.specs.SlotValues.{StandsAt}
use Rattle.clr_view.specs.View.{objects_in}
use Rattle.clr_view.specs.World.{World}
use Rattle.clr_survivors.specs.Survivors.{AreClosed, NameLeft}
use Rattle.clr_survivors.specs.declared.roots.Roots.{Roots}

-- The heap of a world is that of a lawful machine whose contexts are given up, and marked for a collection of
-- generation g: no older object is marked, references name objects, and what is left, and locals, handles and queues,
-- name nothing that goes.
pub record IsMarkedFor (w : World) (g : ℕ) : Type 0 where
  pub no_contexts : w.heap.rests ≡ no_rests
  pub laid : (n : Machine) × IsMemoryOf w.rows w.heap n × IsLaid n
  pub young : (x : ℕ) → Marked w.rows w.heap x → is_condemned_place w.heap g x ≡ true
  pub closed : AreClosed w.rows w.heap g
  pub stands : (x y : ℕ) → SlotNames (objects_in w.rows w.heap) x y → StandsAt w.rows w.heap y
  pub named : NameLeft w g

-- The queue of saved words is empty, and has room for four entries more than there are pinned handles.
pub record IsReadyFor (table : Table) (pins : QueueView) : Type 0 where
  pub empty : pins.entries ≡ []
  pub room : pinned_in table + 4 ≤ pins.spare

-- As many handles are pinned, and the finalisation queue has as many entries, and room for as many more.
pub record KeepsNumbers (old new : Roots) : Type 0 where
  pub pinned : pinned_in new.handles ≡ pinned_in old.handles
  pub spare : new.finals.spare ≡ old.finals.spare
  pub entries : length new.finals.entries ≡ length old.finals.entries
