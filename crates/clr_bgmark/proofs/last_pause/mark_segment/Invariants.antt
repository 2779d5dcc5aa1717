use Rattle.clr_bgmark.proofs.EachMarked.{IsMarking}
use Rattle.clr_bgmark.specs.LastPause.{IsMarkedIn}
use Rattle.clr_bgmark.proofs.EachFound.{IsMarkedFrom}
use Rattle.clr_bgmark.proofs.last_pause.mark_segment.Given as goal

abbrev pub invariant-loop-n : goal.invariant-loop-n
invariant-loop-n l = IsMarking l.types (IsMarkedIn l.shade) (IsMarkedFrom l.shade l.n) l.initial.heap l.heap
