use Rattle.std.proofs.Common.{◌-◌, ◌≤◌, length}
use Rattle.clr_heap.specs.View.{HeapView}
use Rattle.clr_plan.specs.Parts.{Around}
use Rattle.clr_plan.specs.Raises.{CanRaise}
use Rattle.clr_plan.proofs.Raising.{IsRaising}
use Rattle.clr_plan.proofs.raise.past_pins.Given as goal

abbrev pub invariant-loop-pin : goal.invariant-loop-pin
invariant-loop-pin l = (l.at.passed ≤ length l.queue.entries)
    × ((w : Around) (h : HeapView) → CanRaise w h l.queue.entries l.fn.from → IsRaising w h l.queue.entries l.fn.from
    l.at)

abbrev pub decreases-loop-pin : goal.decreases-loop-pin
decreases-loop-pin l = length l.queue.entries - l.at.passed
