-- Each place is one of those that stand.
use Rattle.clr_view.specs.View.{objects_in}
use Rattle.clr_generations.proofs.FoundItems.{in-at}
use Rattle.clr_sos.specs.TextPieces.{queued_line}
use Rattle.clr_sos.proofs.LineParts.{lines-more}
use Rattle.clr_sos.proofs.queues.put_queue.Goals as goal

pub put_queued-requires-clause-stands : goal.put_queued-requires-clause-stands
put_queued-requires-clause-stands c =
    c.requires.stand _ (in-at c.args.places.now c.loop-place.place-index 0 c.loop-place-test.true)

pub loop-place-preserved : goal.loop-place-preserved
loop-place-preserved c =
    rw (c.in_ok-put_queued.ensures, c.loop-place.invariant)
    (lines-more (queued_line c.args.types.now (objects_in c.args.types.now c.args.heap.now) c.args.word.now)
    c.args.text.now.items c.args.places.now c.loop-place.place-index 0 c.loop-place-test.true)
