use Rattle.clr_bgmark.specs.Pauses.{IsFound}
use Rattle.clr_bgmark.proofs.EachFound.{IsFoundFrom}
use Rattle.clr_bgmark.proofs.EachMarked.{IsMarking}
use Rattle.clr_bgmark.proofs.last_pause.mark_each.Given as goal

abbrev pub invariant-loop-k : goal.invariant-loop-k
invariant-loop-k l = IsMarking l.types (IsFound l.shades.items) (IsFoundFrom l.shades.items l.k) l.initial.heap l.heap
