-- The first threads have begun what they had begun.
use Rattle.clr_open.proofs.BegunThreads.{AreBegunTo}
use Rattle.clr_open.proofs.begun.begun_again.Given as goal

abbrev pub invariant-loop-i : goal.invariant-loop-i
invariant-loop-i l = AreBegunTo l.types l.fn.holder l.steps l.i l.safe
