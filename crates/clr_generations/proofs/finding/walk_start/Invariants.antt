use Rattle.std.proofs.Common.{◌≤◌, ◌/◌}
use Rattle.clr_generations.proofs.finding.walk_start.Given as goal

abbrev pub invariant-loop-brick : goal.invariant-loop-brick
invariant-loop-brick l = l.brick ≤ l.a / 4096

abbrev pub decreases-loop-brick : goal.decreases-loop-brick
decreases-loop-brick l = l.brick
