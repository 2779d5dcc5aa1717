use Rattle.std.proofs.Common.{◌≤◌, ◌-◌, ◌/◌}
use Rattle.clr_bgmark.proofs.EachMarked.{IsMarking}
use Rattle.clr_bgmark.specs.LastPause.{IsMarkedBehind}
use Rattle.clr_bgmark.proofs.MarkedBehind.{IsBehindFrom}
use Rattle.clr_bgmark.proofs.last_pause.mark_from.Given as goal

abbrev pub invariant-loop-n : goal.invariant-loop-n
invariant-loop-n l = record {
  start : (l.from - l.shade.base) / 512 ≤ l.n;
  marking : IsMarking l.types (IsMarkedBehind l.shade l.from) (IsBehindFrom l.shade l.from l.n) l.initial.heap l.heap;
}
