use Rattle.std.proofs.Common.{◌-◌}
use Rattle.clr_scan.proofs.StretchScans.{IsStretchScan}
use Rattle.clr_scan.proofs.stretches.scan_stretch.Given as goal

abbrev pub invariant-loop-place : goal.invariant-loop-place
invariant-loop-place l = IsStretchScan l.types l.initial.heap l.heap l.initial.marker l.marker l.k l.lo l.hi l.place
    l.younger

abbrev pub decreases-loop-place : goal.decreases-loop-place
decreases-loop-place l = l.hi - l.place
