use Rattle.clr_types.proofs.Runs.{IsRunning}
use Rattle.clr_types.proofs.descriptors.pattern_series.Given as goal

abbrev pub invariant-loop-i : goal.invariant-loop-i
invariant-loop-i l = IsRunning l.offset l.size l.pattern l.i l.references l.series.items
