use Rattle.std.proofs.Common.{◌/◌, ◌<◌, length, arith, sym, ◌∙◌, subst, pos}
use Rattle.clr_types.specs.declared.segment.SegInfo.{SegInfo}
use Rattle.clr_covers.specs.Covers.{spans}
use Rattle.clr_covers.proofs.Spans.{EndBelow, free_above}
use Rattle.clr_generations.proofs.CoveredSegments.{bricks-below, cards-below, spans-more}
use Rattle.clr_generations.proofs.covering.cover_segments.Goals as goal

pub add-requires-clause-free : goal.add-requires-clause-free
add-requires-clause-free c =
    let below = c.loop-k-test.true in
    let count = c.segments-k-end.ensures.count in
    let l : c.loop-k.k < length c.args.heap.now.segments = omega (arith, below, count) in
    free_above c.loop-k.cards _ _
    (subst (λ (s : SegInfo). EndBelow (s.base / 2048) (spans c.loop-k.cards)) (sym c.info-segment.ensures.value)
    (cards-below c.args.heap.now c.segments-k-end.ensures.heap c.loop-k.k l c.loop-k.cards
    c.loop-k.invariant.cards))

pub add-requires-in-loop-k-clause-free : goal.add-requires-in-loop-k-clause-free
add-requires-in-loop-k-clause-free c =
    let below = c.loop-k-test.true in
    let count = c.segments-k-end.ensures.count in
    let l : c.loop-k.k < length c.args.heap.now.segments = omega (arith, below, count) in
    free_above c.loop-k.bricks _ _
    (subst (λ (s : SegInfo). EndBelow (s.base / 4096) (spans c.loop-k.bricks)) (sym c.info-segment.ensures.value)
    (bricks-below c.args.heap.now c.segments-k-end.ensures.heap c.loop-k.k l c.loop-k.bricks
    c.loop-k.invariant.bricks))

pub loop-k-preserved : goal.loop-k-preserved
loop-k-preserved c =
    let h = c.args.heap.now in
    let heap = c.segments-k-end.ensures.heap in
    let below = c.loop-k-test.true in
    let count = c.segments-k-end.ensures.count in
    let l : c.loop-k.k < length c.args.heap.now.segments = omega (arith, below, count) in
    record {
      cards = spans-more h heap c.loop-k.k l 0 2048 c.loop-k.cards c.add.new.self
          c.info-segment.result c.info-segment.ensures.value c.loop-k.invariant.cards
          (cards-below h heap c.loop-k.k l c.loop-k.cards c.loop-k.invariant.cards)
          c.in_ok-add.ensures.ok;
      bricks = spans-more h heap c.loop-k.k l (pos 0) 4096 c.loop-k.bricks c.add-in-loop-k.new.self
          c.info-segment.result c.info-segment.ensures.value c.loop-k.invariant.bricks
          (bricks-below h heap c.loop-k.k l c.loop-k.bricks c.loop-k.invariant.bricks)
          c.in_ok-add-2.ensures.ok;
      clear = λ i. c.add.ensures.cards i ∙ c.loop-k.invariant.clear i;
      unnamed = λ i. c.add-in-loop-k.ensures.entries i ∙ c.loop-k.invariant.unnamed i;
    }
