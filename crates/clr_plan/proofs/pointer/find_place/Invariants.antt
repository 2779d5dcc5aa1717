use Rattle.std.proofs.Common.{◌+◌, ◌-◌, length}
use Rattle.clr_plan.specs.Stages.{CanPlace, Stage}
use Rattle.clr_plan.proofs.Searching.{IsSearching}
use Rattle.clr_plan.proofs.pointer.find_place.Given as goal

abbrev pub invariant-loop-pin : goal.invariant-loop-pin
invariant-loop-pin l = (w : Stage) (can : CanPlace w l.heap l.queue.entries l.fn.from l.home l.size)
    → IsSearching w l.heap l.queue.entries l.fn.from l.home l.size can l.at

abbrev pub decreases-loop-pin : goal.decreases-loop-pin
decreases-loop-pin l = (l.home - l.at.segment) + (length l.queue.entries - l.at.passed)
