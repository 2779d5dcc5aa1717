use Rattle.std.proofs.Common.{◌≤◌, length}
use Rattle.clr_paths.proofs.numbers.set_guesses.Given as goal

abbrev pub invariant-loop-i : goal.invariant-loop-i
invariant-loop-i l = l.i ≤ length l.places

abbrev pub decreases-loop-i : goal.decreases-loop-i
decreases-loop-i l = l.i
