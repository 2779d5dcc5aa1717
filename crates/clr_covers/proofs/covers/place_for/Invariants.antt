use Rattle.std.proofs.Common.{◌<◌, ◌≤◌, length, get_or}
use Rattle.clr_covers.specs.Covers.{CoverView}
use Rattle.clr_covers.proofs.covers.place_for.Given as goal

abbrev pub invariant-loop-at : goal.invariant-loop-at
invariant-loop-at g l = record {
  within : l.at ≤ length l.covers.items;
  behind : (d : CoverView g.row.T.Denot) → l.at < length l.covers.items
      → l.first < (get_or l.covers.items l.at d).first;
}

abbrev pub decreases-loop-at : goal.decreases-loop-at
decreases-loop-at g l = l.at
