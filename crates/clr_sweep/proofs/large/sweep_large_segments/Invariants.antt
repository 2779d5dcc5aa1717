use Rattle.clr_heap.specs.View.{IsHeap}
use Rattle.clr_sweep.specs.SweptSegments.{AreSwept}
use Rattle.clr_sweep.proofs.LargeSteps.{large_below}
use Rattle.clr_sweep.proofs.large.sweep_large_segments.Given as goal

abbrev pub invariant-loop-k : goal.invariant-loop-k
invariant-loop-k l = AreSwept l.types l.initial.heap l.heap (large_below l.initial.heap l.k) × IsHeap l.heap
