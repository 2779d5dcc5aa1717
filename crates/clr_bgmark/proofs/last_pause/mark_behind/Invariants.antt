use Rattle.clr_bgmark.specs.LastPause.{IsFoundBehind}
use Rattle.clr_bgmark.proofs.EachMarked.{IsMarking}
use Rattle.clr_bgmark.proofs.MarkedBehind.{IsFoundLater}
use Rattle.clr_bgmark.proofs.last_pause.mark_behind.Given as goal

abbrev pub invariant-loop-k : goal.invariant-loop-k
invariant-loop-k l =
    IsMarking l.types (IsFoundBehind l.shades.items l.fronts.items) (IsFoundLater l.shades.items l.fronts.items l.k)
    l.initial.heap l.heap
