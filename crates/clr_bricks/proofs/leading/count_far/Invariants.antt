use Rattle.std.proofs.Common.{◌≡◌, ℕ, pos, ◌+◌, ◌-◌, ◌<◌, ◌≤◌, get_or, length}
use Rattle.clr_bricks.specs.Bricks.{back_entry, hop}
use Rattle.clr_bricks.proofs.leading.count_far.Given as goal

abbrev pub invariant-loop-at : goal.invariant-loop-at
invariant-loop-at l = record {
  within : l.at ≤ length l.entries;
  led : (i : ℕ) → i < l.at → get_or l.entries i (pos 0) ≡ back_entry (hop (i + 1));
}

abbrev pub decreases-loop-at : goal.decreases-loop-at
decreases-loop-at l = length l.initial.entries - l.at
