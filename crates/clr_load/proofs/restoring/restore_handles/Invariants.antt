-- So many handles are in the table.
use Rattle.std.proofs.Common.{◌≡◌, take}
use Rattle.std.specs.FinMap as finmap
use Rattle.clr_load.proofs.restoring.restore_handles.Given as goal

abbrev pub invariant-loop-i : goal.invariant-loop-i
invariant-loop-i l = finmap.entries l.handles ≡ take l.i l.rows
