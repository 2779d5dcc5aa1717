use Rattle.std.proofs.Common.{◌≡◌, ℕ, ◌-◌, ◌<◌, ◌≤◌, false}
use Rattle.clr_plan.specs.Stages.{are_alike}
use Rattle.clr_plan.proofs.pointer.in_next_segment.Given as goal

abbrev pub invariant-loop-k : goal.invariant-loop-k
invariant-loop-k l = (l.at.segment < l.k) × (l.k ≤ l.home) × ((j : ℕ) → l.at.segment < j → j < l.k
    → are_alike l.heap l.home j ≡ false)

abbrev pub decreases-loop-k : goal.decreases-loop-k
decreases-loop-k l = l.home - l.k
