use Rattle.clr_mark.proofs.BatchRoots.{IsRootingAll}
use Rattle.clr_mark.proofs.marker.Marker.mark_targets.Given as goal

abbrev pub invariant-loop-target : goal.invariant-loop-target
invariant-loop-target l = IsRootingAll l.types l.initial.heap l.heap l.initial.self l.self l.targets l.target-index
