use Rattle.std.proofs.Common.{◌+◌, ◌-◌, List}
use Rattle.clr_heap.specs.View.{HeapView}
use Rattle.clr_model.specs.Compaction.{Move}
use Rattle.clr_moves.specs.Overlaid.{IsOverlaid}
use Rattle.clr_moves.specs.Told.{TellMoves}
use Rattle.clr_compact.proofs.CompactingTurns.{IsCompacting}
use Rattle.clr_compact.proofs.slide_plan.slide_plan.Given as goal

abbrev pub invariant-loop-front : goal.invariant-loop-front
invariant-loop-front l =
    (view : HeapView) (vs : List Move) → IsOverlaid view l.initial.heap l.pins.entries l.g vs
    → TellMoves l.types l.initial.heap l.bricks l.g vs
    → IsCompacting l.types l.bricks view l.initial.heap l.heap l.g vs l.planned l.plugs l.front l.fn.slides l.slides
    l.promoted

abbrev pub decreases-loop-front : goal.decreases-loop-front
decreases-loop-front l = (l.count - l.front.segment) + (l.initial.heap.top - l.front.top)
