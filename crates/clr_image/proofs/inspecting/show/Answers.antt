-- What the buffer holds at the end is written, too.
use Rattle.std.proofs.lemmas.Result.{err_from_is_err_and}
use Rattle.clr_image.specs.Texts.{shown_text}
use Rattle.clr_image.proofs.ShownTexts.{cut_alone, cut_flushed, put_flushed}
use Rattle.clr_image.proofs.inspecting.show.Goals as goal

pub returns-in_err-write_replies-clause-cut : goal.returns-in_err-write_replies-clause-cut
returns-in_err-write_replies-clause-cut g c =
    let p = err_from_is_err_and c.from_residual.result c.from_residual.ensures.1 in
    rw p.1 (λ m is. cut_alone _ _ _ _ c.args.prepared.buffer.items (shown_text c.args.first m)
    (c.in_err-write_replies.ensures.cut m is) c.requires.buffer)

pub returns-in_err-flush-clause-cut : goal.returns-in_err-flush-clause-cut
returns-in_err-flush-clause-cut g c =
    let failed = c.from_residual-in_err-flush in
    let p = err_from_is_err_and failed.result failed.ensures.1 in
    rw p.1 (λ m is. cut_flushed _ (g.K.Sink.written c.write_replies.new.sink) _ _
    (g.K.Sink.faults c.write_replies.new.sink) _ c.args.prepared.buffer.items c.write_replies.new.buffer.items
    (shown_text c.args.first m) (c.in_ok-write_replies.ensures.put m is) c.in_err-flush.ensures.cut c.requires.buffer)

pub returns-clause-whole : goal.returns-clause-whole
returns-clause-whole g c = λ m is.
    put_flushed _ (g.K.Sink.written c.write_replies.new.sink) _ _ (g.K.Sink.faults c.write_replies.new.sink) _
    c.args.prepared.buffer.items c.write_replies.new.buffer.items c.flush.new.buffer.items
    (shown_text c.args.first m) (c.in_ok-write_replies.ensures.put m is) c.in_ok-flush.ensures.put
    c.in_ok-flush.ensures.emptied c.requires.buffer
