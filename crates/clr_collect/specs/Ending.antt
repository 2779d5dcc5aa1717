-- What the last pause of a background collection leaves before empty segments are given back.
use Rattle.std.specs.Prelude.{◌≡◌, ℕ}
use Rattle.std.specs.FinMap.{FinMap}
use Rattle.std.specs.Ordering.{nat_cmp}
use Rattle.clr_types.specs.declared.handle.Handle.{Handle}
use Rattle.clr_final.specs.Queues.{Queues}
use Rattle.clr_generations.specs.Tidy.{IsTidy}
use Rattle.clr_generations.specs.declared.space.Space.{Space}
use Rattle.clr_heap.specs.View.{HeapView}
use Rattle.clr_model.specs.Machine.{Marking}
use Rattle.clr_sweep.specs.Swept.{HasSwept, tally_of}
use Rattle.clr_sweep.specs.declared.tally.Tally.{Tally}
use Rattle.clr_view.specs.World.{World}
use Rattle.clr_collect.specs.Collecting.{HasMarkedKept, LastPauseStart}

-- The heap of a world after the sweep of the last pause of a background collection that has marked so much, the handles
-- and the queue: it is the sweep of a heap in which exactly what is kept is marked. No code need have built that one.
pub record HasSweptRest (w : World) (marking : Marking) (old new : Space) (handles : FinMap nat_cmp Handle)
    (queues : Queues) (tally : Tally) : Type 0 where
  pub marked : HeapView
  pub kept : HasMarkedKept w (LastPauseStart marking) marked handles queues 2
  pub swept : HasSwept w.rows marked new.heap 2
  pub counted : tally ≡ tally_of w.rows marked 2
  pub tidy : IsTidy w.rows new
