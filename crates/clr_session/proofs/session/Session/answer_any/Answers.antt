-- The line is the first that a line feed ends.
use Rattle.std.proofs.Common.{refl}
use Rattle.std.proofs.lemmas.Result.{err_from_is_err_and}
use Rattle.clr_session.proofs.FirstLines.{goes_feed, stops_feed}
use Rattle.clr_session.proofs.SessionSteps.{goes_none}
use Rattle.clr_session.proofs.session.Session.answer_any.Goals as goal

pub returns-in_default-clause-bytes : goal.returns-in_default-clause-bytes
returns-in_default-clause-bytes g c = (c.in_default.ensures, refl, goes_none c.args.self.now _)

pub returns-in_err-end_line-clause-stops : goal.returns-in_err-end_line-clause-stops
returns-in_err-end_line-clause-stops g c =
    let p = err_from_is_err_and c.from_residual.result c.from_residual.ensures.1 in
    rw p.1 (stops_feed c.args.self.now c.args.text.now c.in-Some.at _ (g.K.Sink.written c.end_line.new.sink)
    c.in-Some.ensures c.in_err-end_line.ensures.stops)

pub returns-clause-bytes : goal.returns-clause-bytes
returns-clause-bytes g c = goes_feed c.args.self.now c.end_line.new.self c.args.text.now c.in-Some.at _ _
    c.in-Some.ensures c.in_ok-end_line.ensures.bytes
