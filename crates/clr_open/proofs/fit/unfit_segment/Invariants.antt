-- No field of the segments before is bad.
use Rattle.clr_open.proofs.FitFields.{IsLookedTo}
use Rattle.clr_open.proofs.fit.unfit_segment.Given as goal

abbrev pub invariant-loop-k : goal.invariant-loop-k
invariant-loop-k l = IsLookedTo l.heap.segments l.at l.k l.front
