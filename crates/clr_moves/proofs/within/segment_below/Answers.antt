use Rattle.std.proofs.Common.{refl, ◌≡◌, ◌+◌, ◌-◌, ◌/◌, ap, arith, inl, inr}
use Rattle.std.proofs.lemmas.Bool.{cases_lt}
use Rattle.clr_types.specs.declared.segment.SegInfo.{SegInfo}
use Rattle.clr_heap.proofs.Staying.{segment_order}
use Rattle.clr_heap.specs.View.{segment_at}
use Rattle.clr_moves.proofs.SegmentsBelow.{some_segments}
use Rattle.clr_moves.proofs.within.segment_below.Goals as goal

pub loop-low-init : goal.loop-low-init
loop-low-init c =
    let h = c.args.heap.now in
    let some = some_segments h c.requires in
    let count = c.segments-high.ensures.count in
    record {
      some = omega (arith, some, count);
      within = omega (arith, count);
      below = inl refl;
      above = λ t from l. absurd (omega (arith, from, l, count));
    }

pub loop-low-preserved : goal.loop-low-preserved
loop-low-preserved c =
    let h = c.args.heap.now in
    let low = c.loop-low.low in
    let high = c.loop-low.high in
    let middle = low + (high - low) / 2 in
    let test = c.loop-low-test.true in
    let within = c.loop-low.invariant.within in
    let base = ap (λ (s : SegInfo). s.base) c.info.ensures.value in
    let off = c.if-info-place.false in
    record {
      some = omega (arith, test);
      within = omega (arith, test, within);
      below = c.loop-low.invariant.below;
      above = λ t from l. elim (cases_lt middle t) [
        | inl less ↦
            let order = segment_order h middle t c.segments-high.ensures.heap less l in omega (arith, order, base, off)
        | inr not_less ↦
            let same : t ≡ middle = omega (arith, from, not_less) in
            let there = ap (λ n. (segment_at h n).base) same in omega (arith, there, base, off)
      ];
    }
