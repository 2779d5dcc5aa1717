use Rattle.std.proofs.Common.{◌≤◌, ◌*◌, vec_len}
use Rattle.clr_handles.specs.Places.{NoneNames}
use Rattle.clr_handles.proofs.handles.Handles.previous_below.Given as goal

abbrev pub invariant-loop-end : goal.invariant-loop-end
invariant-loop-end l = record {
  few : l.end ≤ l.before;
  inside : l.end ≤ 64 * vec_len l.self-inside.tops;
  none_between : NoneNames l.self l.low l.end l.before;
}

abbrev pub decreases-loop-end : goal.decreases-loop-end
decreases-loop-end l = l.end
