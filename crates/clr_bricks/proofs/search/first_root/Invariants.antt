use Rattle.std.proofs.Common.{ℕ, pos, ◌-◌, ◌<◌, ◌≤◌, get_or, length}
use Rattle.clr_bricks.specs.Bricks.{IsRoot}
use Rattle.clr_bricks.proofs.search.first_root.Given as goal

abbrev pub invariant-loop-at : goal.invariant-loop-at
invariant-loop-at l = record {
  within : l.at ≤ length l.entries;
  none : (i : ℕ) → i < l.at → IsRoot (get_or l.entries i (pos 0)) → ⊥;
}

abbrev pub decreases-loop-at : goal.decreases-loop-at
decreases-loop-at l = length l.initial.entries - l.at
