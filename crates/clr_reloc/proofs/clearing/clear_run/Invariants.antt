use Rattle.std.proofs.Common.{◌-◌, ◌≤◌}
use Rattle.clr_reloc.specs.Clearing.{HaveCleared}
use Rattle.clr_reloc.proofs.clearing.clear_run.Given as goal

abbrev pub invariant-loop-at : goal.invariant-loop-at
invariant-loop-at l = record { low : l.lo ≤ l.at; cleared : HaveCleared l.initial.cards l.cards l.lo l.at }

abbrev pub decreases-loop-at : goal.decreases-loop-at
decreases-loop-at l = l.hi - l.at
