use Rattle.std.proofs.Common.{◌≡◌, ℕ, ◌-◌, List}
use Rattle.clr_covers.specs.Covers.{spans}
use Rattle.clr_heap.specs.ObjectKinds.{IsObjectKind}
use Rattle.clr_heap.specs.View.{HeapView, SameShape}
use Rattle.clr_plugs.specs.Plans.{PlannedPart}
use Rattle.clr_plan.specs.Counts.{HasCounted, no_counts}
use Rattle.clr_plan.specs.LaidParts.{CanLay}
use Rattle.clr_plan.specs.Parts.{Around}
use Rattle.clr_plan.specs.States.{progress, stretch, written}
use Rattle.clr_plan.proofs.Laid.{IsLaidUpTo}
use Rattle.clr_plan.proofs.parts.plan_part.Given as goal

abbrev pub invariant-loop-found : goal.invariant-loop-found
invariant-loop-found l =
    SameShape l.initial.heap l.heap × (spans l.bricks ≡ spans l.initial.bricks) × IsObjectKind l.types l.walk.known
    × ((old : HeapView) (w : Around) (starts free : List ℕ) (part : PlannedPart)
    (can : CanLay w l.types old (progress (written l.initial.heap l.initial.bricks l.initial.queue
    l.initial.laying.writer) l.initial.laying.at l.initial.laying.below) starts free part (stretch l.k l.low l.end))
    → IsLaidUpTo w l.types old (written l.initial.heap l.initial.bricks l.initial.queue l.initial.laying.writer)
    l.initial.laying.at starts free part l.k l.low l.end l.initial.laying.below can
    (written l.heap l.bricks l.queue l.laying.writer) l.laying.at l.place l.laying.below)
    × ((old : HeapView) (w : Around) (starts free : List ℕ) (part : PlannedPart)
    → CanLay w l.types old (progress (written l.initial.heap l.initial.bricks l.initial.queue
    l.initial.laying.writer) l.initial.laying.at l.initial.laying.below) starts free part (stretch l.k l.low l.end)
    → HasCounted l.types old l.k l.end l.low no_counts l.place l.walk.counts)

abbrev pub decreases-loop-found : goal.decreases-loop-found
decreases-loop-found l = l.end - l.place
