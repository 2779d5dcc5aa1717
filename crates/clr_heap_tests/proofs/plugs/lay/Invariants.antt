use Rattle.clr_heap_tests.specs.Laying.{IsLaying}
use Rattle.clr_heap_tests.proofs.plugs.lay.Given as goal

abbrev pub invariant-loop-start : goal.invariant-loop-start
invariant-loop-start g l = IsLaying l.heap l.bricks l.writer l.low l.high l.free
