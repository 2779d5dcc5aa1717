use Rattle.clr_mark.proofs.TieMarks.{IsMarkingTied}
use Rattle.clr_mark.proofs.marker.Marker.mark_tied.Given as goal

abbrev pub invariant-loop-i : goal.invariant-loop-i
invariant-loop-i l =
    IsMarkingTied l.types l.ties l.initial.heap l.heap l.initial.self l.self l.obj l.i
