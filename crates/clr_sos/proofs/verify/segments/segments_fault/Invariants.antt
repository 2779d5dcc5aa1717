use Rattle.std.proofs.Common.{◌≡◌, ◌-◌, length}
use Rattle.clr_sos.specs.Faults.{segments_fault}
use Rattle.clr_sos.proofs.verify.segments.segments_fault.Given as goal

abbrev pub invariant-loop-k : goal.invariant-loop-k
invariant-loop-k l =
    segments_fault l.types l.large l.heap l.k (length l.heap.segments - l.k)
    ≡ segments_fault l.types l.large l.heap 0 (length l.heap.segments)
