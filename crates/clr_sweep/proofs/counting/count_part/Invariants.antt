use Rattle.std.proofs.Common.{◌-◌}
use Rattle.std.specs.Prelude.{IfSome}
use Rattle.clr_heap.specs.View.{last_of}
use Rattle.clr_sweep.specs.Dead.{IsDeadKind}
use Rattle.clr_sweep.proofs.CountedParts.{IsCounting}
use Rattle.clr_sweep.proofs.counting.count_part.Given as goal

abbrev pub invariant-loop-place : goal.invariant-loop-place
invariant-loop-place l = IsCounting l.types l.heap l.k l.from (last_of l.heap l.k) l.place l.fn.before l.tally
    × IfSome l.known (IsDeadKind l.types)

abbrev pub decreases-loop-place : goal.decreases-loop-place
decreases-loop-place l = l.end - l.place
