use Rattle.std.proofs.Common.{◌-◌}
use Rattle.clr_load.specs.ItemScans.{IsItemScan}
use Rattle.clr_load.proofs.items.items_fault.Given as goal

abbrev pub invariant-loop-place : goal.invariant-loop-place
invariant-loop-place l = IsItemScan l.scan l.place l.initial.range l.range

abbrev pub decreases-loop-place : goal.decreases-loop-place
decreases-loop-place l = l.scan.info.end - l.place
