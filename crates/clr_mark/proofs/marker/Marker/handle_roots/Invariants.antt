use Rattle.clr_mark.specs.HandlePasses.{ahead_count}
use Rattle.clr_mark.specs.Kinds.{IsRunKind}
use Rattle.clr_mark.specs.Ties.{IsCondemnedTarget}
use Rattle.clr_mark.proofs.Rooting.{IsRooting}
use Rattle.clr_mark.proofs.TargetRoots.{IsVisited}
use Rattle.clr_mark.proofs.marker.Marker.handle_roots.Given as goal

abbrev pub invariant-loop-handle : goal.invariant-loop-handle
invariant-loop-handle l = record {
  rooting : IsRooting l.types l.initial.heap l.heap l.initial.self l.self
      (IsCondemnedTarget l.handles l.initial.heap l.initial.self.oldest) (IsVisited l.handles l.ahead);
  known : IsRunKind l.types l.known;
}

abbrev pub decreases-loop-handle : goal.decreases-loop-handle
decreases-loop-handle l = ahead_count l.ahead
