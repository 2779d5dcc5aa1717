use Rattle.std.proofs.Common.{◌≤◌}
use Rattle.clr_reloc.proofs.entries.first_object.Given as goal

abbrev pub invariant-loop-border : goal.invariant-loop-border
invariant-loop-border l = record { above : l.low ≤ l.at; below : l.at ≤ l.from }

abbrev pub decreases-loop-border : goal.decreases-loop-border
decreases-loop-border l = l.at
