-- What waited is written first, and then the text.
use Rattle.std.proofs.lemmas.Result.{err_from_is_err_and, on_ok_weaker, on_err_weaker}
use Rattle.clr_session.proofs.Outputs.{some_before, wrote_all, wrote_then_some}
use Rattle.clr_session.proofs.pending.Pending.put.Goals as goal

pub returns-in_err-flush-clause-part : goal.returns-in_err-flush-clause-part
returns-in_err-flush-clause-part g c =
    let p = err_from_is_err_and c.from_residual.result c.from_residual.ensures.1 in
    rw p.1 (some_before _ (g.K.Sink.written c.flush.new.sink) c.args.self.now _ c.in_err-flush.ensures.part)

pub returns-clause-wrote : goal.returns-clause-wrote
returns-clause-wrote g c = on_ok_weaker c.write_all.result
    (λ wrote. wrote_all _ (g.K.Sink.written c.flush.new.sink) _ c.args.self.now c.flush.new.self c.args.text.now
    c.in_ok-flush.ensures.wrote c.in_ok-flush.ensures.emptied wrote)
    c.write_all.ensures.bytes

pub returns-clause-part : goal.returns-clause-part
returns-clause-part g c = on_err_weaker c.write_all.result
    (λ part. wrote_then_some _ (g.K.Sink.written c.flush.new.sink) _ c.args.self.now c.args.text.now part.0
    c.in_ok-flush.ensures.wrote part.1)
    c.write_all.ensures.part
