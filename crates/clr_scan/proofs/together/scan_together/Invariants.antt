use Rattle.std.proofs.Common.{◌≡◌, ◌-◌, ◌≤◌, []}
use Rattle.clr_scan.proofs.WordScans.{IsWordScan}
use Rattle.clr_scan.proofs.together.scan_together.Given as goal

abbrev pub invariant-loop-at : goal.invariant-loop-at
invariant-loop-at l =
    IsWordScan l.types l.initial.heap l.heap l.initial.marker l.marker l.older.item l.first l.older.age l.from
    l.at l.younger
    × (l.from ≤ l.at) × (l.at ≤ l.to) × (l.targets ≡ [])

abbrev pub decreases-loop-at : goal.decreases-loop-at
decreases-loop-at l = l.to - l.at
