use Rattle.std.proofs.Common.{◌≡◌, drop, find}
use Rattle.clr_sos.proofs.FoundSegments.{has_base}
use Rattle.clr_sos.proofs.places.places_from.Given as goal

-- the segments before have other bases
abbrev pub invariant-loop-k : goal.invariant-loop-k
invariant-loop-k l = find (has_base l.base) l.heap.segments ≡ find (has_base l.base) (drop l.k l.heap.segments)
