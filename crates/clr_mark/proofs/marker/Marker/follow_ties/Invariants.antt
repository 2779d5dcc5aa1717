use Rattle.clr_mark.specs.HandlePasses.{ahead_count}
use Rattle.clr_mark.proofs.Tying.{IsTying}
use Rattle.clr_mark.proofs.marker.Marker.follow_ties.Given as goal

abbrev pub invariant-loop-handle : goal.invariant-loop-handle
invariant-loop-handle l =
    IsTying l.types l.initial.heap l.heap l.initial.self l.self l.handles l.ahead l.marked

abbrev pub decreases-loop-handle : goal.decreases-loop-handle
decreases-loop-handle l = ahead_count l.ahead
