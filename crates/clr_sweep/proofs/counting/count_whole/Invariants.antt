use Rattle.clr_sweep.proofs.CountedParts.{HaveCounted}
use Rattle.clr_sweep.proofs.counting.count_whole.Given as goal

abbrev pub invariant-loop-k : goal.invariant-loop-k
invariant-loop-k l = HaveCounted l.types l.heap l.k l.tally
