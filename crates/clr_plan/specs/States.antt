-- What a plan is written into, and how far it has come.
use Rattle.std.specs.Prelude.{ℕ}
use Rattle.clr_heap.specs.View.{HeapView}
use Rattle.clr_pinq.specs.Queue.{QueueView}
use Rattle.clr_plugs.specs.BrickEntries.{BricksView}
use Rattle.clr_plugs.specs.Planning.{WriterView}
use Rattle.clr_plan.specs.declared.pointer.Pointer.{Pointer}

-- the heap, the bricks and the queue, in which a plan stands
pub record PlanState : Type 0 where
  pub heap : HeapView
  pub bricks : BricksView
  pub queue : QueueView

abbrev pub state : HeapView → BricksView → QueueView → PlanState
state h bricks queue = record { heap = h; bricks = bricks; queue = queue }

-- what a plan has written: the heap, the bricks, the queue, and the writer of the part
pub record Written : Type 0 where
  pub heap : HeapView
  pub bricks : BricksView
  pub queue : QueueView
  pub writer : WriterView

abbrev pub written : HeapView → BricksView → QueueView → WriterView → Written
written h bricks queue writer = record { heap = h; bricks = bricks; queue = queue; writer = writer }

-- how far the plan of a part has come: what is written, where the pointer stands, and where what is live below the next
-- plug ends
pub record Progress : Type 0 where
  pub made : Written
  pub at : Pointer
  pub below : ℕ

abbrev pub progress : Written → Pointer → ℕ → Progress
progress made at below = record { made = made; at = at; below = below }

-- the bytes of a segment from the place `low` up to the place `high`
pub record Stretch : Type 0 where
  pub segment : ℕ
  pub low : ℕ
  pub high : ℕ

abbrev pub stretch : ℕ → ℕ → ℕ → Stretch
stretch k p e = record { segment = k; low = p; high = e }
