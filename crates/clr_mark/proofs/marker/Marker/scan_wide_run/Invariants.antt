use Rattle.std.proofs.Common.{◌-◌, ◌≤◌}
use Rattle.clr_types.specs.Descriptors.{offsets_from}
use Rattle.clr_mark.specs.Kinds.{IsRunKind}
use Rattle.clr_mark.proofs.Meeting.{IsMeeting}
use Rattle.clr_mark.proofs.marker.Marker.scan_wide_run.Given as goal

abbrev pub invariant-loop-at : goal.invariant-loop-at
invariant-loop-at l = record {
  meeting : IsMeeting l.types l.initial.heap l.heap l.initial.self l.self l.obj (offsets_from l.run.offset l.at)
      l.targets;
  within : l.at ≤ l.run.count;
  known : IsRunKind l.types l.last.known;
}

abbrev pub decreases-loop-at : goal.decreases-loop-at
decreases-loop-at l = l.run.count - l.at
