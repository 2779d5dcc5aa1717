use Rattle.clr_sweep.proofs.LargeCounted.{HaveCountedLarge}
use Rattle.clr_sweep.proofs.counting.count_large.Given as goal

abbrev pub invariant-loop-k : goal.invariant-loop-k
invariant-loop-k l = HaveCountedLarge l.types l.heap l.k l.tally
