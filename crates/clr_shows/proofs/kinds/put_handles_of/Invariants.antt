use Rattle.std.proofs.Common.{◌≡◌, ◌-◌, ◌≤◌, ◌++◌, length}
use Rattle.std.specs.List.{flat_map}
use Rattle.clr_model.specs.Sos.{handle_line}
use Rattle.clr_shows.proofs.KindEntries.{kind_below}
use Rattle.clr_shows.proofs.kinds.put_handles_of.Given as goal

abbrev pub invariant-loop-number : goal.invariant-loop-number
invariant-loop-number l = record {
  text : l.text.items ≡ l.initial.text.items ++ flat_map handle_line (kind_below l.kind l.from l.handles);
  count : l.count ≡ length (kind_below l.kind l.from l.handles);
  few : l.count ≤ l.from;
  within : l.from ≤ 65536;
}

abbrev pub decreases-loop-number : goal.decreases-loop-number
decreases-loop-number l = 65536 - l.from
