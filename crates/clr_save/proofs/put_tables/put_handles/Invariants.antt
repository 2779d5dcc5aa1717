use Rattle.std.proofs.Common.{◌≡◌, ◌-◌, ◌≤◌, ◌++◌}
use Rattle.std.specs.List.{flat_map}
use Rattle.std.specs.FinMap as finmap
use Rattle.clr_format.specs.Saved.{handle_bytes}
use Rattle.clr_sos.proofs.NumberedEntries.{entries_below}
use Rattle.clr_save.proofs.put_tables.put_handles.Given as goal

abbrev pub invariant-loop-number : goal.invariant-loop-number
invariant-loop-number l = record {
  text : l.out.items
      ≡ l.initial.out.items ++ flat_map handle_bytes (entries_below l.from (finmap.entries l.handles));
  within : l.from ≤ 65536;
}

abbrev pub decreases-loop-number : goal.decreases-loop-number
decreases-loop-number l = 65536 - l.from
