use Rattle.std.proofs.Common.{◌≡◌, ◌==◌, ◌&&◌, drop}
use Rattle.std.specs.List.{list_any}
use Rattle.clr_types.specs.Ranges as ranges
use Rattle.clr_types.specs.Ranges.{Piece}
use Rattle.clr_types.specs.Segments.{rest_pieces}
use Rattle.clr_sos.proofs.verify.fronts.is_unused.Given as goal

abbrev pub invariant-loop-k : goal.invariant-loop-k
invariant-loop-k l =
    list_any (λ (p : Piece). (p.place == l.place) && ranges.fits l.size p.size) (rest_pieces (drop l.k l.heap.rests))
    ≡ list_any (λ (p : Piece). (p.place == l.place) && ranges.fits l.size p.size) (rest_pieces l.heap.rests)
