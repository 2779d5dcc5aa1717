use Rattle.std.proofs.Common.{◌≡◌, ◌-◌, ◌≤◌, length}
use Rattle.clr_shows.proofs.KindEntries.{kind_below}
use Rattle.clr_shows.proofs.kinds.count_of.Given as goal

abbrev pub invariant-loop-number : goal.invariant-loop-number
invariant-loop-number l = record {
  count : l.count ≡ length (kind_below l.kind l.from l.handles);
  few : l.count ≤ l.from;
  within : l.from ≤ 65536;
}

abbrev pub decreases-loop-number : goal.decreases-loop-number
decreases-loop-number l = 65536 - l.from
