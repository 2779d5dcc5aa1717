use Rattle.clr_covers.specs.Covers.{HasAll}
use Rattle.clr_low_tests.proofs.bricks.enter_each.Given as goal

abbrev pub invariant-loop-number : goal.invariant-loop-number
invariant-loop-number g l = HasAll l.bricks 65536 65600
