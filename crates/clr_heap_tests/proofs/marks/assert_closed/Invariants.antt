use Rattle.std.proofs.Common.{◌≡◌, ◌++◌}
use Rattle.clr_mark.proofs.FoundObjects.{AllNamed, NamedBelow}
use Rattle.clr_heap_tests.proofs.marks.assert_closed.Given as goal

abbrev pub invariant-loop-k : goal.invariant-loop-k
invariant-loop-k g l = NamedBelow l.types l.heap l.k

abbrev pub invariant-loop-item : goal.invariant-loop-item
invariant-loop-item g l = record {
  walked : l.yielded ++ l.item-iterator ≡ l.initial.item-iterator;
  named : AllNamed l.types l.heap l.yielded;
}
