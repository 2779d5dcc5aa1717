use Rattle.clr_view.specs.View.{IsHeld}
use Rattle.clr_heap_tests.proofs.marks.allocate_each.Given as goal

abbrev pub invariant-loop-i : goal.invariant-loop-i
invariant-loop-i g l = IsHeld l.types l.heap
