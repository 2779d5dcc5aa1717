-- The bytes of the types before.
use Rattle.clr_open.proofs.FitFields.{AreCountedTo}
use Rattle.clr_open.proofs.fit.types_bytes.Given as goal

abbrev pub invariant-loop-t : goal.invariant-loop-t
invariant-loop-t l = AreCountedTo l.types l.t l.bytes
