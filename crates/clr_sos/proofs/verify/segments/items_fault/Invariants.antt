use Rattle.std.proofs.Common.{◌-◌}
use Rattle.clr_sos.specs.SegmentScans.{IsScanning}
use Rattle.clr_sos.proofs.verify.segments.items_fault.Given as goal

abbrev pub invariant-loop-place : goal.invariant-loop-place
invariant-loop-place l = IsScanning l.scan.types.now l.scan.limits.large l.scan.heap.now l.scan.k l.place l.next

abbrev pub decreases-loop-place : goal.decreases-loop-place
decreases-loop-place l = l.scan.limits.end - l.place
