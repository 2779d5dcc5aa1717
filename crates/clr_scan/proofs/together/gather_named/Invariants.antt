use Rattle.std.proofs.Common.{◌≡◌, ◌-◌, ◌≤◌, []}
use Rattle.clr_scan.specs.Scans.{AreGathered}
use Rattle.clr_scan.proofs.together.gather_named.Given as goal

abbrev pub invariant-loop-older : goal.invariant-loop-older
invariant-loop-older l =
    AreGathered l.types l.heap l.oldest l.older.age l.first l.from l.at l.targets l.younger
    × (l.from ≤ l.at) × (l.at ≤ l.to) × (l.at ≡ l.from → l.targets ≡ [])

abbrev pub decreases-loop-older : goal.decreases-loop-older
decreases-loop-older l = l.to - l.at
