use Rattle.std.proofs.Common.{ℕ, ◌-◌}
use Rattle.clr_heap.specs.ObjectKinds.{IsObjectKind}
use Rattle.clr_moves.specs.Told.{IsMarkedRun}
use Rattle.clr_moves.proofs.run.run_end.Given as goal

abbrev pub invariant-loop-place : goal.invariant-loop-place
invariant-loop-place l = record {
  run : (last : ℕ) → IsMarkedRun l.types l.heap l.k l.fn.from last → IsMarkedRun l.types l.heap l.k l.place last;
  known : IsObjectKind l.types l.known;
}

abbrev pub decreases-loop-place : goal.decreases-loop-place
decreases-loop-place l = l.end - l.place
