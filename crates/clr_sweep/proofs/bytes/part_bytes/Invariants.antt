use Rattle.std.proofs.Common.{◌-◌}
use Rattle.std.specs.Prelude.{IfSome}
use Rattle.clr_heap.specs.View.{last_of}
use Rattle.clr_sweep.specs.Dead.{IsDeadKind}
use Rattle.clr_sweep.proofs.KeptSizes.{IsStop, IsSumming}
use Rattle.clr_sweep.proofs.bytes.part_bytes.Given as goal

abbrev pub invariant-loop-place : goal.invariant-loop-place
invariant-loop-place l = IsSumming l.types l.heap l.k l.from (last_of l.heap l.k) l.place l.fn.before l.bytes
    × IsStop (last_of l.heap l.k) l.need l.ahead l.bytes l.stop × IfSome l.known (IsDeadKind l.types)

abbrev pub decreases-loop-place : goal.decreases-loop-place
decreases-loop-place l = l.end - l.place
