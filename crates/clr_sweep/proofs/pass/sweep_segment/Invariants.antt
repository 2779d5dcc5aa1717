use Rattle.std.proofs.Common.{◌-◌}
use Rattle.clr_heap.specs.ObjectKinds.{IsObjectKind}
use Rattle.clr_heap.specs.View.{last_of}
use Rattle.clr_sweep.proofs.Passing.{IsPassing}
use Rattle.clr_sweep.proofs.pass.sweep_segment.Given as goal

abbrev pub invariant-loop-pass : goal.invariant-loop-pass
invariant-loop-pass l = record {
  passing : IsPassing l.types l.initial.heap l.heap l.k l.fn.from (last_of l.initial.heap l.k) l.fn.tally l.pass;
  known : IsObjectKind l.types l.known;
}

abbrev pub decreases-loop-pass : goal.decreases-loop-pass
decreases-loop-pass l = l.segment.end - l.pass.place
