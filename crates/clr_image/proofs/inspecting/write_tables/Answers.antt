-- Nothing is written of an image of the first version, and else one reply behind the other.
use Rattle.std.proofs.lemmas.Result.{err_from_is_err_and}
use Rattle.clr_view.specs.View.{objects_in}
use Rattle.clr_sos.specs.Buffered.{queue_text}
use Rattle.clr_sos.proofs.BufferedTexts.{cut_before, cut_more, put_more}
use Rattle.clr_image.specs.Texts.{tables_text}
use Rattle.clr_image.proofs.ShownTexts.{put_nothing, queue-shown, tables-none, tables-shown}
use Rattle.clr_image.proofs.inspecting.write_tables.Goals as goal

pub returns-then-first-clause-put : goal.returns-then-first-clause-put
returns-then-first-clause-put g c = λ m is.
    put_nothing _ _ _ (tables_text c.args.first m) (tables-none c.args.first m c.if-first.true)

pub returns-in_err-write_buffered-clause-cut : goal.returns-in_err-write_buffered-clause-cut
returns-in_err-write_buffered-clause-cut g c =
    let p = err_from_is_err_and c.from_residual.result c.from_residual.ensures.1 in
    let v = c.args.view.now in
    let queue = queue_text v.types.now (objects_in v.types.now v.heap.now) v.finals.now.entries v.finals.now.ready in
    rw p.1 (λ m is. cut_before _ _ _ _ _ c.args.handles.now queue _ c.in_err-write_buffered.ensures.cut
    (tables-shown c.args.first m c.args.handles.now queue c.if-first.false (c.requires.handles m is)
    (queue-shown v m is)))

pub returns-in_err-write_finalizequeue-clause-cut : goal.returns-in_err-write_finalizequeue-clause-cut
returns-in_err-write_finalizequeue-clause-cut g c =
    let failed = c.from_residual-in_err-write_finalizequeue in
    let p = err_from_is_err_and failed.result failed.ensures.1 in
    let v = c.args.view.now in
    let queue = queue_text v.types.now (objects_in v.types.now v.heap.now) v.finals.now.entries v.finals.now.ready in
    rw p.1 (λ m is. cut_more _ (g.K.Sink.written c.write_buffered.new.sink) _ _
    (g.K.Sink.faults c.write_buffered.new.sink) _ _ c.write_buffered.new.buffer.items c.args.handles.now queue _
    c.in_ok-write_buffered.ensures.put c.in_err-write_finalizequeue.ensures.cut
    (tables-shown c.args.first m c.args.handles.now queue c.if-first.false (c.requires.handles m is)
    (queue-shown v m is)))

pub returns-clause-put : goal.returns-clause-put
returns-clause-put g c = λ m is.
    let v = c.args.view.now in
    let queue = queue_text v.types.now (objects_in v.types.now v.heap.now) v.finals.now.entries v.finals.now.ready in
    put_more _ (g.K.Sink.written c.write_buffered.new.sink) _ _ (g.K.Sink.faults c.write_buffered.new.sink) _ _
    c.write_buffered.new.buffer.items _ c.args.handles.now queue _ c.in_ok-write_buffered.ensures.put
    c.in_ok-write_finalizequeue.ensures.put
    (tables-shown c.args.first m c.args.handles.now queue c.if-first.false (c.requires.handles m is)
    (queue-shown v m is))
