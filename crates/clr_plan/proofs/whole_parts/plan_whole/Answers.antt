use Rattle.std.proofs.Common.{◌≡◌, ◌∙◌, sym, ap, subst, arith, true, false}
use Rattle.clr_heap.specs.View.{HeapView, segment_at}
use Rattle.clr_moves.specs.Moves.{takes}
use Rattle.clr_plan.specs.Counts.{HaveCounted}
use Rattle.clr_plan.specs.WholeParts.{AreLaidWhole}
use Rattle.clr_plan.proofs.CountingParts.{counted-over, none-counted}
use Rattle.clr_plan.proofs.WholeLaid.{whole-counted-by, whole-counted-fits, whole-laid-by, whole-laid-over}
use Rattle.clr_plan.proofs.WholeLaid.{whole-laid-starts, whole-segment}
use Rattle.clr_plan.proofs.whole_parts.plan_whole.Goals as goal
use Rattle.clr_plan.proofs.whole_parts.plan_whole.Goals.{then-takes_part, else-takes_part}
use Rattle.clr_plan.specs.States.{state}

pub lowest_place-at-requires : goal.lowest_place-at-requires
lowest_place-at-requires c = let (w, can) = c.requires.can in record { some = can.can.some }

pub loop-k-init : goal.loop-k-init
loop-k-init c = (
  λ w can. whole-laid-starts w c.args.types.now c.args.heap.now c.args.bricks.now c.args.queue.now c.args.parts
      c.args.count can c.lowest_place-at.result c.lowest_place-at.ensures.lowest c.lowest_place-at.ensures.place
      c.lowest_place-at.ensures.high c.lowest_place-at.ensures.passed,
  λ w can. subst (HaveCounted c.args.types.now c.args.heap.now c.args.parts 0) (sym c.none-counts.ensures)
      (none-counted c.args.types.now c.args.heap.now c.args.parts),
)

pub plan_segment-laid-requires : goal.plan_segment-laid-requires
plan_segment-laid-requires c =
    let (w, can) = c.requires.can in
    let s = c.loop-k.invariant.0 w can in
    let same : segment_at c.loop-k.heap c.loop-k.k ≡ segment_at c.args.heap.now c.loop-k.k =
    ap (λ (h : HeapView). segment_at h c.loop-k.k) s.laid.words.shape.others in
    let on : takes c.args.parts (segment_at c.args.heap.now c.loop-k.k) ≡ true =
    ap (takes c.args.parts) (sym (c.info.ensures.value ∙ same)) ∙ sym c.takes_part.ensures ∙ c.if-takes_part.true in
    record {
      segment = whole-segment w c.args.types.now c.args.heap.now c.args.bricks.now c.args.queue.now c.args.parts
          c.args.count can c.loop-k.heap c.loop-k.bricks c.loop-k.queue c.loop-k.k c.loop-k.at c.loop-k-test.true s on;
    }

pub plus-counts-requires-clause-kept : goal.plus-counts-requires-clause-kept
plus-counts-requires-clause-kept c =
    let (w, can) = c.requires.can in
    let s = c.loop-k.invariant.0 w can in
    let same : segment_at c.loop-k.heap c.loop-k.k ≡ segment_at c.args.heap.now c.loop-k.k =
    ap (λ (h : HeapView). segment_at h c.loop-k.k) s.laid.words.shape.others in
    let on : takes c.args.parts (segment_at c.args.heap.now c.loop-k.k) ≡ true =
    ap (takes c.args.parts) (sym (c.info.ensures.value ∙ same)) ∙ sym c.takes_part.ensures ∙ c.if-takes_part.true in
    (whole-counted-fits w c.args.types.now c.args.heap.now c.args.bricks.now c.args.queue.now c.args.parts c.args.count
    can c.loop-k.heap c.loop-k.bricks c.loop-k.queue c.loop-k.k c.loop-k.at c.loop-k-test.true s on c.loop-k.counts
    c.plan_segment-laid.result.counts (c.loop-k.invariant.1 w can) c.plan_segment-laid.ensures.counted).0

pub plus-counts-requires-clause-freed : goal.plus-counts-requires-clause-freed
plus-counts-requires-clause-freed c =
    let (w, can) = c.requires.can in
    let s = c.loop-k.invariant.0 w can in
    let same : segment_at c.loop-k.heap c.loop-k.k ≡ segment_at c.args.heap.now c.loop-k.k =
    ap (λ (h : HeapView). segment_at h c.loop-k.k) s.laid.words.shape.others in
    let on : takes c.args.parts (segment_at c.args.heap.now c.loop-k.k) ≡ true =
    ap (takes c.args.parts) (sym (c.info.ensures.value ∙ same)) ∙ sym c.takes_part.ensures ∙ c.if-takes_part.true in
    (whole-counted-fits w c.args.types.now c.args.heap.now c.args.bricks.now c.args.queue.now c.args.parts c.args.count
    can c.loop-k.heap c.loop-k.bricks c.loop-k.queue c.loop-k.k c.loop-k.at c.loop-k-test.true s on c.loop-k.counts
    c.plan_segment-laid.result.counts (c.loop-k.invariant.1 w can) c.plan_segment-laid.ensures.counted).1

pub loop-k-preserved : goal.loop-k-preserved
loop-k-preserved c = (
  λ w can.
      let s = c.loop-k.invariant.0 w can in
      let same : segment_at c.loop-k.heap c.loop-k.k ≡ segment_at c.args.heap.now c.loop-k.k =
      ap (λ (h : HeapView). segment_at h c.loop-k.k) s.laid.words.shape.others in
      elim c.if-takes_part.branch [
        | then-takes_part b ↦
            let on : takes c.args.parts (segment_at c.args.heap.now c.loop-k.k) ≡ true =
            ap (takes c.args.parts) (sym (c.info.ensures.value ∙ same)) ∙ sym c.takes_part.ensures
            ∙ b.if-takes_part.true in
            rw (b.heap-is, b.bricks-is, b.queue-is, b.at-is)
            (whole-laid-by w c.args.types.now c.args.heap.now c.args.bricks.now c.args.queue.now c.args.parts
            c.args.count
            can c.loop-k.heap c.loop-k.bricks c.loop-k.queue c.loop-k.k c.loop-k.at c.loop-k-test.true s on
            b.plan_segment-laid.new.heap b.plan_segment-laid.new.bricks b.plan_segment-laid.new.queue
            b.plan_segment-laid.result.at
            b.plan_segment-laid.ensures.laid b.plan_segment-laid.ensures.shape b.plan_segment-laid.ensures.spans)
        | else-takes_part b ↦
            let off : takes c.args.parts (segment_at c.args.heap.now c.loop-k.k) ≡ false =
            ap (takes c.args.parts) (sym (c.info.ensures.value ∙ same)) ∙ sym c.takes_part.ensures
            ∙ b.if-takes_part.false in
            rw (b.heap-is, b.bricks-is, b.queue-is, b.at-is)
            (whole-laid-over w c.args.types.now c.args.heap.now c.args.bricks.now c.args.queue.now c.args.parts
            c.args.count can c.loop-k.heap c.loop-k.bricks c.loop-k.queue c.loop-k.k c.loop-k.at c.loop-k-test.true s
            off)
      ],
  λ w can.
      let s = c.loop-k.invariant.0 w can in
      let counted = c.loop-k.invariant.1 w can in
      let same : segment_at c.loop-k.heap c.loop-k.k ≡ segment_at c.args.heap.now c.loop-k.k =
      ap (λ (h : HeapView). segment_at h c.loop-k.k) s.laid.words.shape.others in
      elim c.if-takes_part.branch [
        | then-takes_part b ↦
            let on : takes c.args.parts (segment_at c.args.heap.now c.loop-k.k) ≡ true =
            ap (takes c.args.parts) (sym (c.info.ensures.value ∙ same)) ∙ sym c.takes_part.ensures
            ∙ b.if-takes_part.true in
            rw (b.counts-is, b.plus-counts.ensures) (whole-counted-by w c.args.types.now c.args.heap.now
            c.args.bricks.now
            c.args.queue.now c.args.parts c.args.count can c.loop-k.heap c.loop-k.bricks c.loop-k.queue c.loop-k.k
            c.loop-k.at c.loop-k-test.true s on c.loop-k.counts b.plan_segment-laid.result.counts counted
            b.plan_segment-laid.ensures.counted)
        | else-takes_part b ↦
            let off : takes c.args.parts (segment_at c.args.heap.now c.loop-k.k) ≡ false =
            ap (takes c.args.parts) (sym (c.info.ensures.value ∙ same)) ∙ sym c.takes_part.ensures
            ∙ b.if-takes_part.false in
            rw b.counts-is (counted-over c.args.types.now c.args.heap.now c.args.parts c.loop-k.k c.loop-k.counts
            counted
            off)
      ],
)

pub returns : goal.returns
returns c =
    let end : c.loop-k.k ≡ c.args.count = let l = c.loop-k-test.false in let u = c.loop-k.auto.k-end in
    omega (arith, l, u) in
    record {
      laid = λ w can. subst (λ k. AreLaidWhole w (state c.args.heap.now c.args.bricks.now c.args.queue.now)
          (state c.loop-k.heap c.loop-k.bricks c.loop-k.queue) c.args.parts c.args.count k c.loop-k.at) end
          (c.loop-k.invariant.0 w can);
      counted = λ w can. subst (λ k. HaveCounted c.args.types.now c.args.heap.now c.args.parts k c.loop-k.counts) end
          (c.loop-k.invariant.1 w can);
    }
