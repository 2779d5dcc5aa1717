-- The first segment with the base is found.
use Rattle.std.proofs.Common.{◌∙◌, ◌≤◌, ◌<◌, length, arith}
use Rattle.std.proofs.lemmas.Bool.{eq-eqb, ne_eqb}
use Rattle.clr_sos.proofs.FoundSegments.{found-here, found-none, found-on}
use Rattle.clr_sos.proofs.places.places_from.Goals as goal

pub loop-k-preserved : goal.loop-k-preserved
loop-k-preserved c =
    let inside = c.loop-k-test.true in
    let count = c.segments-k-end.ensures.count in
    let low : c.loop-k.k < length c.args.heap.now.segments = omega (arith, inside, count) in
    found-on c.args.base c.args.heap.now.segments c.loop-k.k c.info-segment.result low c.info-segment.ensures.value
    c.loop-k.invariant (ne_eqb c.info-segment.result.base c.args.base c.if-segment-base.false)

pub returns-then-segment-base : goal.returns-then-segment-base
returns-then-segment-base c = λ p.
    let inside = c.loop-k-test.true in
    let count = c.segments-k-end.ensures.count in
    let low : c.loop-k.k < length c.args.heap.now.segments = omega (arith, inside, count) in
    found-here c.args.base c.args.heap.now.segments c.loop-k.k c.info-segment.result low c.info-segment.ensures.value
    c.loop-k.invariant (eq-eqb c.info-segment.result.base c.args.base c.if-segment-base.true) c.first_place.result p c.first_place.ensures

pub returns : goal.returns
returns c =
    let past = c.loop-k-test.false in
    let count = c.segments-k-end.ensures.count in
    found-none c.args.base c.args.heap.now.segments c.loop-k.k (omega (arith, past, count)) c.loop-k.invariant
