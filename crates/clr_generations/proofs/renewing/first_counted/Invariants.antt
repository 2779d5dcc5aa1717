use Rattle.std.proofs.Common.{◌-◌}
use Rattle.clr_generations.specs.Renewing as renewing
use Rattle.clr_generations.proofs.FirstCounted.{IsSearch}
use Rattle.clr_generations.proofs.renewing.first_counted.Given as goal

abbrev pub invariant-loop-place : goal.invariant-loop-place
invariant-loop-place l = IsSearch l.types l.heap (renewing.passes l.counted) l.k l.start l.place

abbrev pub decreases-loop-place : goal.decreases-loop-place
decreases-loop-place l = l.past - l.place
