use Rattle.std.proofs.Common.{◌≡◌, ℕ, ap, arith, ◌∙◌, length}
use Rattle.clr_types.specs.Segments.{first_place}
use Rattle.clr_types.specs.declared.segment.SegInfo.{SegInfo}
use Rattle.clr_heap.specs.View.{listings}
use Rattle.clr_sweep.specs.Passes.{plus}
use Rattle.clr_sweep.specs.SweptItems.{items_from, tally_among}
use Rattle.clr_sweep.proofs.MoreSwept.{whole_part}
use Rattle.clr_sweep.proofs.Counted.{whole-counted}
use Rattle.clr_sweep.proofs.CountedParts.{more_counted, none_counted}
use Rattle.clr_sweep.proofs.counting.count_whole.Goals as goal

pub loop-k-init : goal.loop-k-init
loop-k-init c = none_counted c.args.types.now c.args.heap.now

pub count_part-tally-requires-clause-parted : goal.count_part-tally-requires-clause-parted
count_part-tally-requires-clause-parted c =
    let n = c.segments-count.ensures.count in
    rw c.info-from.ensures.value (whole_part c.args.types.now c.args.heap.now c.loop-k.k
    (c.requires.held.walkable c.loop-k.k (omega (arith, n, c.loop-k-test.true))))

pub count_part-tally-requires-clause-counted : goal.count_part-tally-requires-clause-counted
count_part-tally-requires-clause-counted c =
    let n = c.segments-count.ensures.count in
    rw c.info-from.ensures.value (c.loop-k.invariant.counted c.loop-k.k (omega arith)
    (omega (arith, n, c.loop-k-test.true)))

pub loop-k-preserved : goal.loop-k-preserved
loop-k-preserved c =
    let n = c.segments-count.ensures.count in
    more_counted c.args.types.now c.args.heap.now c.loop-k.k c.loop-k.tally c.count_part-tally.result
    c.segments-count.ensures.heap (omega (arith, n, c.loop-k-test.true)) c.loop-k.invariant
    (c.count_part-tally.ensures.tally
    ∙ ap (λ (s : SegInfo). plus c.loop-k.tally (tally_among c.args.heap.now (items_from c.args.types.now
    c.args.heap.now c.loop-k.k (first_place s)))) c.info-from.ensures.value)
    c.count_part-tally.ensures.counted

pub returns : goal.returns
returns c =
    let n = c.segments-count.ensures.count in
    let within = c.loop-k.invariant.within in
    let end : c.loop-k.k ≡ length c.args.heap.now.segments = omega (arith, n, within, c.loop-k-test.false) in
    c.loop-k.invariant.counts
    ∙ ap (λ (k : ℕ). tally_among c.args.heap.now (listings c.args.types.now c.args.heap.now 0 k)) end
    ∙ whole-counted c.args.types.now c.args.heap.now c.segments-count.ensures.heap c.requires.held
