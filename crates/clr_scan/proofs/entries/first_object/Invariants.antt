use Rattle.std.proofs.Common.{◌≤◌}
use Rattle.clr_scan.proofs.entries.first_object.Given as goal

abbrev pub invariant-loop-low : goal.invariant-loop-low
invariant-loop-low l = record { above : l.low ≤ l.at; below : l.at ≤ l.from }

abbrev pub decreases-loop-low : goal.decreases-loop-low
decreases-loop-low l = l.at
