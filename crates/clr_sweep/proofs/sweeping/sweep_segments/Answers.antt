use Rattle.std.proofs.Common.{arith, ap, subst, ◌∙◌}
use Rattle.clr_types.specs.Segments.{first_place}
use Rattle.clr_types.specs.declared.segment.SegInfo.{SegInfo}
use Rattle.clr_sweep.specs.Passes.{plus}
use Rattle.clr_sweep.specs.SweptItems.{items_from, tally_among}
use Rattle.clr_sweep.specs.SweptSegments.{HasSweptSegment}
use Rattle.clr_sweep.proofs.AllSegments.{all_swept, next_parted, sweeping_more}
use Rattle.clr_sweep.proofs.sweeping.sweep_segments.Goals as goal

pub sweep_segment-tally-requires-clause-parted : goal.sweep_segment-tally-requires-clause-parted
sweep_segment-tally-requires-clause-parted c =
    let h = c.args.heap.now in
    let n = c.requires.count in
    rw c.info-from.ensures.value (next_parted c.args.types.now h c.loop-k.heap c.loop-k.k c.loop-k.tally
    c.requires.heap c.requires.held c.loop-k.invariant (omega (arith, n, c.loop-k-test.true)))

pub loop-k-preserved : goal.loop-k-preserved
loop-k-preserved c =
    let h = c.args.heap.now in
    let n = c.requires.count in
    let swept = c.sweep_segment-tally.ensures in
    sweeping_more c.args.types.now h c.loop-k.heap c.loop-k.k c.loop-k.tally c.requires.heap
    c.requires.held c.loop-k.invariant (omega (arith, n, c.loop-k-test.true))
    c.sweep_segment-tally.new.heap c.sweep_segment-tally.result
    (subst (λ (t : SegInfo). HasSweptSegment c.args.types.now c.loop-k.heap c.sweep_segment-tally.new.heap
    c.loop-k.k (first_place t)) c.info-from.ensures.value swept.swept)
    (swept.tally
    ∙ ap (λ (t : SegInfo).
    plus c.loop-k.tally (tally_among c.loop-k.heap (items_from c.args.types.now c.loop-k.heap c.loop-k.k
    (first_place t)))) c.info-from.ensures.value) swept.counted

pub returns-clause-swept : goal.returns-clause-swept
returns-clause-swept c =
    let count = c.loop-k.invariant.all.count in
    let n = c.requires.count in
    rw c.age.ensures.aged (all_swept c.args.types.now c.args.heap.now c.loop-k.heap c.loop-k.k c.loop-k.tally
    c.loop-k.invariant (omega (arith, count, n, c.loop-k-test.false)))
