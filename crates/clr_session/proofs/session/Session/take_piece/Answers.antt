-- What waits is written behind the answers.
use Rattle.std.proofs.lemmas.Result.{on_ok_weaker, on_err_weaker}
use Rattle.clr_session.proofs.SessionSteps.{goes_flushed, stops_flushed, both_ok}
use Rattle.clr_session.proofs.session.Session.take_piece.Goals as goal

pub returns-clause-bytes : goal.returns-clause-bytes
returns-clause-bytes g c = on_ok_weaker c.flush.result
    (λ wrote options taken outcomes at.
    let a = goes_flushed c.args.self.now c.answer_piece.new.self c.args.piece.now _
    (g.K.Sink.written c.answer_piece.new.sink) _ c.in_ok-answer_piece.ensures.bytes wrote.0 options taken
    outcomes at in
    (a.0, a.1, a.2, wrote.1))
    (both_ok _ _ c.flush.result c.flush.ensures.wrote c.flush.ensures.emptied)

pub returns-clause-stops : goal.returns-clause-stops
returns-clause-stops g c = on_err_weaker c.flush.result
    (λ some. stops_flushed c.args.self.now c.answer_piece.new.self c.args.piece.now _
    (g.K.Sink.written c.answer_piece.new.sink) _ c.in_ok-answer_piece.ensures.bytes some)
    c.flush.ensures.part
