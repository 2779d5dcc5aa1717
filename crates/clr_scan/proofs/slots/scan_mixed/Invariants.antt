use Rattle.std.proofs.Common.{◌-◌, ◌≤◌}
use Rattle.clr_scan.proofs.WordScans.{IsWordScan}
use Rattle.clr_scan.proofs.slots.scan_mixed.Given as goal

abbrev pub invariant-loop-at : goal.invariant-loop-at
invariant-loop-at l =
    IsWordScan l.types l.initial.heap l.heap l.initial.marker l.marker l.older.item l.slots.first l.older.age
    l.slots.from l.at l.younger
    × (l.slots.from ≤ l.at) × (l.at ≤ l.slots.to)

abbrev pub decreases-loop-at : goal.decreases-loop-at
decreases-loop-at l = l.slots.to - l.at
