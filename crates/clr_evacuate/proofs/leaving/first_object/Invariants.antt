use Rattle.std.proofs.Common.{◌-◌}
use Rattle.clr_generations.proofs.FirstCounted.{IsSearch}
use Rattle.clr_evacuate.specs.Left.{is_any}
use Rattle.clr_evacuate.proofs.leaving.first_object.Given as goal

abbrev pub invariant-loop-place : goal.invariant-loop-place
invariant-loop-place l = IsSearch l.types l.heap is_any l.k l.start l.place

abbrev pub decreases-loop-place : goal.decreases-loop-place
decreases-loop-place l = l.past - l.place
