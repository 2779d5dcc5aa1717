use Rattle.std.proofs.Common.{◌≡◌, ◌-◌, ◌≤◌, length}
use Rattle.std.specs.FinMap as finmap
use Rattle.clr_sos.proofs.NumberedEntries.{entries_below}
use Rattle.clr_shows.proofs.kinds.count_all.Given as goal

abbrev pub invariant-loop-number : goal.invariant-loop-number
invariant-loop-number l = record {
  count : l.count ≡ length (entries_below l.from (finmap.entries l.handles));
  few : l.count ≤ l.from;
  within : l.from ≤ 65536;
}

abbrev pub decreases-loop-number : goal.decreases-loop-number
decreases-loop-number l = 65536 - l.from
