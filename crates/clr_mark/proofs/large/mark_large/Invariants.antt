use Rattle.clr_mark.proofs.LargeMarks.{AreLargeMarked}
use Rattle.clr_mark.proofs.large.mark_large.Given as goal

abbrev pub invariant-loop-k : goal.invariant-loop-k
invariant-loop-k l = AreLargeMarked l.types l.initial.heap l.heap l.k
