use Rattle.clr_sweep.proofs.LargeSteps.{AreRenewing}
use Rattle.clr_sweep.proofs.large.renew_large_bricks.Given as goal

abbrev pub invariant-loop-k : goal.invariant-loop-k
invariant-loop-k l = AreRenewing l.types l.heap l.initial.bricks l.bricks l.k
