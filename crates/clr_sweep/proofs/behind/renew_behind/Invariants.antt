use Rattle.clr_sweep.proofs.RenewedBehind.{AreRenewedBehind}
use Rattle.clr_sweep.proofs.behind.renew_behind.Given as goal

abbrev pub invariant-loop-k : goal.invariant-loop-k
invariant-loop-k l = AreRenewedBehind l.types l.heap l.fronts l.initial.bricks l.bricks l.k
