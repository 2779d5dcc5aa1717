use Rattle.std.proofs.Common.{◌-◌, ◌≤◌}
use Rattle.clr_reloc.specs.Clearing.{HaveCleared}
use Rattle.clr_reloc.proofs.clearing.clear_between.Given as goal

abbrev pub invariant-loop-start : goal.invariant-loop-start
invariant-loop-start l = record { low : l.lo ≤ l.cursor; cleared : HaveCleared l.initial.cards l.cards l.lo l.cursor }

abbrev pub decreases-loop-start : goal.decreases-loop-start
decreases-loop-start l = l.hi - l.cursor
