use Rattle.std.proofs.Common.{◌-◌, ◌≤◌, length}
use Rattle.clr_cards.specs.Runs.{AreSet}
use Rattle.clr_cards.proofs.runs.first_clear.Given as goal

abbrev pub invariant-loop-at : goal.invariant-loop-at
invariant-loop-at l =
    record { from : l.from ≤ l.at; within : l.at ≤ length l.cards; passed : AreSet l.cards l.from l.at }

abbrev pub decreases-loop-at : goal.decreases-loop-at
decreases-loop-at l = length l.initial.cards - l.at
