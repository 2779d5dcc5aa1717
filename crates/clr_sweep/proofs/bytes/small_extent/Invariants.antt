use Rattle.clr_sweep.proofs.Extents.{IsSummed}
use Rattle.clr_sweep.proofs.bytes.small_extent.Given as goal

abbrev pub invariant-loop-k : goal.invariant-loop-k
invariant-loop-k l = IsSummed l.heap l.k l.total
