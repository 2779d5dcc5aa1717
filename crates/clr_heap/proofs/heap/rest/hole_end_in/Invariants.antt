use Rattle.std.proofs.Common.{◌≡◌, drop}
use Rattle.clr_heap.specs.Parts.{hole_from}
use Rattle.clr_heap.proofs.heap.rest.hole_end_in.Given as goal

abbrev pub invariant-loop-slot : goal.invariant-loop-slot
invariant-loop-slot l = hole_from (drop l.slot-index l.rests.items) l.p ≡ hole_from l.rests.items l.p
