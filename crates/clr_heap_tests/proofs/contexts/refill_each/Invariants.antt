use Rattle.clr_view.specs.View.{IsHeld}
use Rattle.clr_ctx.specs.Contexts.{IsIndex}
use Rattle.clr_heap_tests.proofs.contexts.refill_each.Given as goal

abbrev pub invariant-loop-t : goal.invariant-loop-t
invariant-loop-t g l = IsHeld l.types l.heap × IsIndex l.types l.heap l.young
