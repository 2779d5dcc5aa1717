-- The first threads have their contexts.
use Rattle.clr_open.proofs.BegunHeaps.{IsOpenedTo}
use Rattle.clr_open.proofs.begun.open_fronts.Given as goal

abbrev pub invariant-loop-i : goal.invariant-loop-i
invariant-loop-i l = IsOpenedTo l.types l.initial.heap l.steps l.i l.heap
