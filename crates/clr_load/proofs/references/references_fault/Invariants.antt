-- No reference of the segments before is bad.
use Rattle.clr_load.specs.Bodies.{IsBody}
use Rattle.clr_format.specs.HeapFields as fields
use Rattle.clr_load.proofs.AllSegments.{IsAhead}
use Rattle.clr_load.proofs.references.references_fault.Given as goal

abbrev pub invariant-loop-k : goal.invariant-loop-k
invariant-loop-k l = (b : fields.Body) → IsBody l.bytes l.types l.body b → IsAhead l.bytes l.types b l.k
