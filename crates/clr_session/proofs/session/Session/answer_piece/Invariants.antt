use Rattle.std.proofs.Common.{◌≡◌, ◌+◌, ◌*◌, ◌^◌, ◌≤◌, ◌-◌, length, take}
use Rattle.clr_session.specs.Sessions.{Goes}
use Rattle.clr_session.proofs.session.Session.answer_piece.Given as goal

abbrev pub invariant-loop-count : goal.invariant-loop-count
invariant-loop-count g l = record {
  within : l.from ≤ length l.piece;
  goes : Goes l.initial.self l.self (take l.from l.piece) (g.K.Sink.written l.initial.sink) (g.K.Sink.written l.sink);
  grows : l.self.runtime.machine.layout.top ≤ l.initial.self.runtime.machine.layout.top + 2 ^ 30 * l.from;
  counted : g.K.Sink.faults l.sink ≡ g.K.Sink.faults l.initial.sink;
}

abbrev pub decreases-loop-count : goal.decreases-loop-count
decreases-loop-count g l = length l.piece - l.from
