use Rattle.clr_generations.proofs.AllBricks.{AreAllRenewed}
use Rattle.clr_generations.proofs.all_bricks.renew_all_bricks.Given as goal

abbrev pub invariant-loop-k : goal.invariant-loop-k
invariant-loop-k l = AreAllRenewed l.types l.heap l.initial.bricks l.bricks l.k
