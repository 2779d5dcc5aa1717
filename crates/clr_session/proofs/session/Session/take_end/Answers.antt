-- What waits is written behind the answers.
use Rattle.std.proofs.lemmas.Result.{on_ok_weaker, on_err_weaker}
use Rattle.clr_session.proofs.SessionSteps.{ends_flushed, stops_last_flushed}
use Rattle.clr_session.proofs.session.Session.take_end.Goals as goal

pub returns-clause-bytes : goal.returns-clause-bytes
returns-clause-bytes g c = on_ok_weaker c.flush.result
    (λ wrote. ends_flushed c.args.self.now c.answer_end.new.self _
    (g.K.Sink.written c.answer_end.new.sink) _ c.in_ok-answer_end.ensures.bytes wrote)
    c.flush.ensures.wrote

pub returns-clause-stops : goal.returns-clause-stops
returns-clause-stops g c = on_err_weaker c.flush.result
    (λ some. stops_last_flushed c.args.self.now c.answer_end.new.self _
    (g.K.Sink.written c.answer_end.new.sink) _ c.in_ok-answer_end.ensures.bytes some)
    c.flush.ensures.part
