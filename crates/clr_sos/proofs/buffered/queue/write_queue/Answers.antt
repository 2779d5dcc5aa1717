-- Each place is one of those that stand, and has its line.
use Rattle.std.proofs.Common.{◌+◌, drop, get_or, take}
use Rattle.std.specs.List.{flat_map}
use Rattle.std.proofs.lemmas.Result.{err_from_is_err_and}
use Rattle.clr_view.specs.View.{objects_in}
use Rattle.clr_generations.proofs.FoundItems.{in-at}
use Rattle.clr_sos.specs.TextPieces.{queued_line}
use Rattle.clr_sos.proofs.BufferedTexts.{cut_within, lines_next, lines_stop, put_more}
use Rattle.clr_sos.proofs.buffered.queue.write_queue.Goals as goal

pub write_place-requires-clause-stands : goal.write_place-requires-clause-stands
write_place-requires-clause-stands g c =
    c.requires.stand _ (in-at c.args.places.now c.loop-place.place-index 0 c.loop-place-test.true)

pub returns-in_err-write_place-clause-cut : goal.returns-in_err-write_place-clause-cut
returns-in_err-write_place-clause-cut g c =
    let p = err_from_is_err_and c.from_residual.result c.from_residual.ensures.1 in
    let says = queued_line c.args.types.now (objects_in c.args.types.now c.args.heap.now) c.args.word.now in
    let places = c.args.places.now in
    let k = c.loop-place.place-index in
    rw p.1 (cut_within _ (g.K.Sink.written c.loop-place.sink) _ _ (g.K.Sink.faults c.loop-place.sink) _ _
    c.loop-place.buffer.items (flat_map says (take k places)) (says (get_or places k 0))
    (flat_map says (drop (k + 1) places)) _ c.loop-place.invariant c.in_err-write_place.ensures.cut
    (lines_stop says places k 0 c.loop-place-test.true))

pub loop-place-preserved : goal.loop-place-preserved
loop-place-preserved g c =
    let says = queued_line c.args.types.now (objects_in c.args.types.now c.args.heap.now) c.args.word.now in
    let places = c.args.places.now in
    let k = c.loop-place.place-index in
    put_more _ (g.K.Sink.written c.loop-place.sink) _ _ (g.K.Sink.faults c.loop-place.sink) _ _
    c.loop-place.buffer.items _ (flat_map says (take k places)) (says (get_or places k 0)) _ c.loop-place.invariant
    c.in_ok-write_place.ensures.put (lines_next says places k 0 c.loop-place-test.true)
