use Rattle.std.proofs.Common.{◌-◌}
use Rattle.clr_heap.specs.View.{first_of}
use Rattle.clr_scan.proofs.SegmentScans.{IsSegmentScan}
use Rattle.clr_scan.proofs.cards.scan_segment.Given as goal

abbrev pub invariant-loop-lo : goal.invariant-loop-lo
invariant-loop-lo l = IsSegmentScan l.types l.initial.heap l.heap l.initial.marker l.marker l.initial.cards l.cards
    l.k (first_of l.initial.heap l.k) l.end l.at l.cursor

abbrev pub decreases-loop-lo : goal.decreases-loop-lo
decreases-loop-lo l = l.end - l.at
