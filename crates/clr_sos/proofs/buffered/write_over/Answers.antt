-- What the buffer held is written first, and then the text.
use Rattle.std.proofs.lemmas.Result.{err_from_is_err_and}
use Rattle.clr_sos.proofs.BufferedTexts.{cut_past, put_past}
use Rattle.clr_sos.proofs.buffered.write_over.Goals as goal

pub returns-in_err-write_all-clause-cut : goal.returns-in_err-write_all-clause-cut
returns-in_err-write_all-clause-cut g c =
    let p = err_from_is_err_and c.from_residual-in_err-write_all.result c.from_residual-in_err-write_all.ensures.1 in
    let part = c.in_err-write_all.ensures.part in
    rw p.1 (cut_past _ (g.K.Sink.written c.flush.new.sink) _ _ (g.K.Sink.faults c.flush.new.sink) _ _
    c.flush.new.buffer.items c.args.text.now part.0 c.in_ok-flush.ensures.put c.in_ok-flush.ensures.emptied part.1
    c.in_err-write_all.ensures.cause)

pub returns-then-text-capacity-clause-put : goal.returns-then-text-capacity-clause-put
returns-then-text-capacity-clause-put g c =
    put_past _ (g.K.Sink.written c.flush.new.sink) _ _ (g.K.Sink.faults c.flush.new.sink) _ _ c.flush.new.buffer.items
    c.args.text.now c.in_ok-flush.ensures.put c.in_ok-flush.ensures.emptied c.in_ok-write_all.ensures.bytes
    c.in_ok-write_all.ensures.counted
