use Rattle.std.proofs.Common.{◌≡◌, ℕ, ◌-◌, ◌<◌, ◌≤◌}
use Rattle.clr_bricks.specs.Bricks.{entry_at}
use Rattle.clr_plugs.specs.Plans.{root_number}
use Rattle.clr_plugs.proofs.cursor.first_root.Given as goal

abbrev pub invariant-loop-brick : goal.invariant-loop-brick
invariant-loop-brick l = record {
  above : l.from ≤ l.brick;
  within : l.brick ≤ l.past;
  none : (i : ℕ) → l.from ≤ i → i < l.brick → root_number (entry_at l.bricks i) ≡ 0;
}

abbrev pub decreases-loop-brick : goal.decreases-loop-brick
decreases-loop-brick l = l.past - l.brick
