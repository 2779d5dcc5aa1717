use Rattle.clr_plan.specs.Counts.{HaveCounted}
use Rattle.clr_plan.specs.WholeParts.{AreLaidWhole, CanLayWhole, Wholes}
use Rattle.clr_plan.proofs.whole_parts.plan_whole.Given as goal
use Rattle.clr_plan.specs.States.{state}

abbrev pub invariant-loop-k : goal.invariant-loop-k
invariant-loop-k l =
    ((w : Wholes) → CanLayWhole w l.types l.initial.heap l.initial.bricks l.initial.queue l.parts l.count
    → AreLaidWhole w (state l.initial.heap l.initial.bricks l.initial.queue) (state l.heap l.bricks l.queue) l.parts
    l.count l.k l.at)
    × ((w : Wholes) → CanLayWhole w l.types l.initial.heap l.initial.bricks l.initial.queue l.parts l.count
    → HaveCounted l.types l.initial.heap l.parts l.k l.counts)
