use Rattle.clr_sweep.proofs.KeptSizes.{HaveSummed}
use Rattle.clr_sweep.proofs.bytes.small_bytes.Given as goal

abbrev pub invariant-loop-k : goal.invariant-loop-k
invariant-loop-k l = HaveSummed l.types l.heap l.k l.all l.need l.ahead l.bytes
