use Rattle.clr_mark.specs.HandlePasses.{ahead_count}
use Rattle.clr_mark.proofs.TieLists.{IsListing}
use Rattle.clr_mark.proofs.marker.Marker.list_open.Given as goal

abbrev pub invariant-loop-handle : goal.invariant-loop-handle
invariant-loop-handle l = IsListing l.heap l.handles l.self.oldest l.ahead l.ties.items

abbrev pub decreases-loop-handle : goal.decreases-loop-handle
decreases-loop-handle l = ahead_count l.ahead
