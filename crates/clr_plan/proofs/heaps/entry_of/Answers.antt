use Rattle.std.proofs.Common.{◌+◌, ◌/◌, ◌<◌, ◌≤◌, refl, subst, arith}
use Rattle.clr_types.specs.declared.segment.SegInfo.{SegInfo}
use Rattle.clr_plan.proofs.Covering.{brick-none, brick-there}
use Rattle.clr_plan.proofs.heaps.entry_of.Goals as goal

pub entry-requires : goal.entry-requires
entry-requires c =
    let h = c.args.heap.now in
    let count = c.segments-count.ensures.count in
    let l = c.loop-k-test.true in
    let low = subst (λ (s : SegInfo). s.base ≤ c.args.place) c.info-segment.ensures.value c.if-segment-place.true in
    let high = subst (λ (s : SegInfo). c.args.place < s.base + s.reserved) c.info-segment.ensures.value
    c.if-place-segment.true in
    let base = c.info-segment.ensures.lawful.base in
    brick-there h c.loop-k.k c.segments-count.ensures.heap (omega (arith, l, count)) c.args.bricks.now c.args.bricks.now
    c.requires.bricks refl (c.args.place / 4096) (omega (arith, low, base)) (omega (arith, high))

pub returns : goal.returns
returns c =
    let count = c.segments-count.ensures.count in
    let l = c.loop-k-test.false in
    brick-none c.args.heap.now c.segments-count.ensures.heap c.args.bricks.now c.requires.bricks c.args.place
    (λ k inside. c.loop-k.invariant k (omega (arith, l, count, inside)))
