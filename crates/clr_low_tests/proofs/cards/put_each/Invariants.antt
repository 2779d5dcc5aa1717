use Rattle.clr_covers.specs.Covers.{HasAll}
use Rattle.clr_low_tests.proofs.cards.put_each.Given as goal

abbrev pub invariant-loop-a : goal.invariant-loop-a
invariant-loop-a g l = HasAll l.cards 131072 131200
