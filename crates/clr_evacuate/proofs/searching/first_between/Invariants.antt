use Rattle.std.proofs.Common.{◌-◌}
use Rattle.clr_evacuate.proofs.Searches.{IsSearching}
use Rattle.clr_evacuate.proofs.searching.first_between.Given as goal

abbrev pub invariant-loop-place : goal.invariant-loop-place
invariant-loop-place l = IsSearching l.types l.heap l.k l.start l.size l.place

abbrev pub decreases-loop-place : goal.decreases-loop-place
decreases-loop-place l = l.end - l.place
