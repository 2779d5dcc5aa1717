use Rattle.std.proofs.Common.{◌≡◌, ◌+◌, ◌*◌, ◌^◌, ◌≤◌}
use Rattle.clr_session.proofs.ScriptLoop.{RunningFromEach}
use Rattle.clr_session.proofs.script.run_script.Given as goal

abbrev pub invariant-loop-count : goal.invariant-loop-count
invariant-loop-count g l = record {
  running : RunningFromEach l.initial.session.runtime.machine l.session (g.S.Source.held l.initial.source)
      (g.S.Source.held l.source) (g.K.Sink.written l.initial.sink) (g.K.Sink.written l.sink) l.limit l.left;
  room : l.session.runtime.machine.layout.top + 2 ^ 30 * (l.left + 1) ≤ 2 ^ 61;
  source_counted : g.S.Source.faults l.source ≡ g.S.Source.faults l.initial.source;
  sink_counted : g.K.Sink.faults l.sink ≡ g.K.Sink.faults l.initial.sink;
}

abbrev pub decreases-loop-count : goal.decreases-loop-count
decreases-loop-count g l = l.left
