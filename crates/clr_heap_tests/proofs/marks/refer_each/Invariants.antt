use Rattle.clr_view.specs.View.{IsHeld}
use Rattle.clr_heap_tests.proofs.marks.refer_each.Given as goal

abbrev pub invariant-loop-from : goal.invariant-loop-from
invariant-loop-from g l = IsHeld l.types l.heap
