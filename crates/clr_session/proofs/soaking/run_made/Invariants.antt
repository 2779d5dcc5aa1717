use Rattle.std.proofs.Common.{◌+◌, ◌*◌, ◌^◌, ◌≤◌, length}
use Rattle.clr_session.proofs.SoakLoop.{Running}
use Rattle.clr_session.proofs.soaking.run_made.Given as goal

abbrev pub invariant-loop-alloc : goal.invariant-loop-alloc
invariant-loop-alloc l = record {
  running : Running l.initial.runtime.machine l.runtime.machine l.initial.made l.made l.tally.lines l.tally.refused;
  room : l.runtime.machine.layout.top + 2 ^ 30 * length l.made ≤ 2 ^ 61;
  few : l.tally.lines + length l.made ≤ 2 ^ 31;
  refused : l.tally.refused ≤ l.tally.lines;
}

abbrev pub decreases-loop-alloc : goal.decreases-loop-alloc
decreases-loop-alloc l = length l.made
