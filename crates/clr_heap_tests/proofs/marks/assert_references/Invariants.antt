use Rattle.std.proofs.Common.{◌≡◌, ◌++◌}
use Rattle.clr_mark.proofs.FoundObjects.{AreNamed}
use Rattle.clr_heap_tests.proofs.marks.assert_references.Given as goal

abbrev pub invariant-loop-offset : goal.invariant-loop-offset
invariant-loop-offset g l = record {
  walked : l.yielded ++ l.offset-iterator ≡ l.initial.offset-iterator;
  named : AreNamed l.types l.heap l.item l.yielded;
}
