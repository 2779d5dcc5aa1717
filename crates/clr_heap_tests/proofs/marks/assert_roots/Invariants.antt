use Rattle.clr_mark.proofs.FoundObjects.{RootsBelow}
use Rattle.clr_heap_tests.proofs.marks.assert_roots.Given as goal

abbrev pub invariant-loop-root : goal.invariant-loop-root
invariant-loop-root g l = RootsBelow l.types l.heap l.roots l.root-index
