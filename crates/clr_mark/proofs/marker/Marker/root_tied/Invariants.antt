use Rattle.clr_mark.proofs.TieMarks.{IsRootingTied}
use Rattle.clr_mark.proofs.marker.Marker.root_tied.Given as goal

abbrev pub invariant-loop-i : goal.invariant-loop-i
invariant-loop-i l = IsRootingTied l.types l.ties l.initial.heap l.heap l.initial.self l.self l.i
