use Rattle.std.proofs.Common.{◌-◌, ◌≤◌}
use Rattle.clr_covers.specs.Covers.{IsAt}
use Rattle.clr_bricks.specs.Bricks.{LeadsTo}
use Rattle.clr_bricks.proofs.search.search.Given as goal

abbrev pub invariant-back : goal.invariant-back
invariant-back g l = record {
  path : LeadsTo l.covers l.from l.at (l.steps - l.initial.steps);
  counted : l.initial.steps ≤ l.steps;
  there : IsAt l.covers l.k l.at;
  below : l.at ≤ l.from;
}

abbrev pub decreases-back : goal.decreases-back
decreases-back g l = l.at
