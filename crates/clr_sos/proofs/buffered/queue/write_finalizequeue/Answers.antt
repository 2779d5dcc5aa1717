-- Both lists and the line of their lengths are written one after another.
use Rattle.std.proofs.Common.{◌++◌, length, refl}
use Rattle.std.specs.Prelude.{codes}
use Rattle.std.specs.List.{flat_map}
use Rattle.std.proofs.lemmas.Result.{err_from_is_err_and}
use Rattle.clr_view.specs.View.{objects_in}
use Rattle.clr_sos.specs.Buffered.{counts_line}
use Rattle.clr_sos.specs.TextPieces.{queued_line}
use Rattle.clr_sos.proofs.BufferedLines.{queue_is}
use Rattle.clr_sos.proofs.BufferedTexts.{cut_more, cut_within, put_more}
use Rattle.clr_sos.proofs.buffered.queue.write_finalizequeue.Goals as goal

pub returns-in_err-write_queue-2-clause-cut : goal.returns-in_err-write_queue-2-clause-cut
returns-in_err-write_queue-2-clause-cut g c =
    let failed = c.from_residual-in_err-write_queue-2 in
    let p = err_from_is_err_and failed.result failed.ensures.1 in
    let rows = c.args.view.now.types.now in
    let objects = objects_in rows c.args.view.now.heap.now in
    let entries = c.entries-entries.result.now in
    let ready = c.ready-ready.result.now in
    rw p.1 (cut_within _ (g.K.Sink.written c.write_queue.new.sink) _ _ (g.K.Sink.faults c.write_queue.new.sink) _ _
    c.write_queue.new.buffer.items (flat_map (queued_line rows objects (codes "entry")) entries)
    (flat_map (queued_line rows objects (codes "ready")) ready) (counts_line (length entries) (length ready)) _
    c.in_ok-write_queue.ensures.put c.in_err-write_queue-2.ensures.cut
    (queue_is rows objects entries ready _ _ c.entries-entries.ensures c.ready-ready.ensures))

pub returns-in_err-put_counts-clause-cut : goal.returns-in_err-put_counts-clause-cut
returns-in_err-put_counts-clause-cut g c =
    let failed = c.from_residual-in_err-put_counts in
    let p = err_from_is_err_and failed.result failed.ensures.1 in
    let rows = c.args.view.now.types.now in
    let objects = objects_in rows c.args.view.now.heap.now in
    let entries = c.entries-entries.result.now in
    let ready = c.ready-ready.result.now in
    let one = flat_map (queued_line rows objects (codes "entry")) entries in
    let other = flat_map (queued_line rows objects (codes "ready")) ready in
    rw p.1 (cut_more _ (g.K.Sink.written c.write_queue-2.new.sink) _ _ (g.K.Sink.faults c.write_queue-2.new.sink) _ _
    c.write_queue-2.new.buffer.items (one ++ other) (counts_line (length entries) (length ready)) _
    (put_more _ (g.K.Sink.written c.write_queue.new.sink) _ _ (g.K.Sink.faults c.write_queue.new.sink) _ _
    c.write_queue.new.buffer.items c.write_queue-2.new.buffer.items one other (one ++ other)
    c.in_ok-write_queue.ensures.put c.in_ok-write_queue-2.ensures.put refl)
    c.in_err-put_counts.ensures.cut
    (queue_is rows objects entries ready _ _ c.entries-entries.ensures c.ready-ready.ensures))

pub returns-clause-put : goal.returns-clause-put
returns-clause-put g c =
    let rows = c.args.view.now.types.now in
    let objects = objects_in rows c.args.view.now.heap.now in
    let entries = c.entries-entries.result.now in
    let ready = c.ready-ready.result.now in
    let one = flat_map (queued_line rows objects (codes "entry")) entries in
    let other = flat_map (queued_line rows objects (codes "ready")) ready in
    put_more _ (g.K.Sink.written c.write_queue-2.new.sink) _ _ (g.K.Sink.faults c.write_queue-2.new.sink) _ _
    c.write_queue-2.new.buffer.items _ (one ++ other) (counts_line (length entries) (length ready)) _
    (put_more _ (g.K.Sink.written c.write_queue.new.sink) _ _ (g.K.Sink.faults c.write_queue.new.sink) _ _
    c.write_queue.new.buffer.items c.write_queue-2.new.buffer.items one other (one ++ other)
    c.in_ok-write_queue.ensures.put c.in_ok-write_queue-2.ensures.put refl)
    c.in_ok-put_counts.ensures.put
    (queue_is rows objects entries ready _ _ c.entries-entries.ensures c.ready-ready.ensures)
