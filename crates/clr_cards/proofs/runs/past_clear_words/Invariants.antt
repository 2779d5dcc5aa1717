use Rattle.std.proofs.Common.{◌-◌, ◌≤◌, length}
use Rattle.clr_cards.specs.Runs.{AreClear}
use Rattle.clr_cards.proofs.runs.past_clear_words.Given as goal

abbrev pub invariant-loop-at : goal.invariant-loop-at
invariant-loop-at l =
    record { from : l.from ≤ l.at; within : l.at ≤ length l.cards; passed : AreClear l.cards l.from l.at }

abbrev pub decreases-loop-at : goal.decreases-loop-at
decreases-loop-at l = length l.initial.cards - l.at
