-- Segment by segment.
use Rattle.std.proofs.Common.{◌≡◌, ◌<◌, ◌+◌, ◌-◌, ℕ, length, ap, sym, ◌∙◌, subst, arith, None}
use Rattle.clr_types.specs.Segments.{first_place}
use Rattle.clr_types.specs.declared.segment.SegInfo.{SegInfo}
use Rattle.clr_heap.specs.View.{segment_at}
use Rattle.clr_open.specs.Fit.{bad_field}
use Rattle.clr_open.proofs.FitFields.{IsLookedTo, looked-all, looked-bad, looked-more, none-looked}
use Rattle.clr_open.proofs.fit.unfit_segment.Goals as goal

pub loop-k-init : goal.loop-k-init
loop-k-init c = none-looked c.args.heap.now.segments c.args.at

pub returns-in-Some : goal.returns-in-Some
returns-in-Some c = λ memories are.
    let count = c.segments-k-end.ensures.count in
    let low = c.loop-k-test.true in
    looked-bad c.args.heap.now.segments c.args.at c.loop-k.k c.loop-k.front (omega (arith, count, low))
    c.loop-k.invariant c.in-Some.field
    (ap bad_field (sym c.info-segment.ensures.value) ∙ sym c.bad_field.ensures.is ∙ c.in-Some.is) memories are

pub loop-k-preserved : goal.loop-k-preserved
loop-k-preserved c =
    let segments = c.args.heap.now.segments in
    let count = c.segments-k-end.ensures.count in
    let low = c.loop-k-test.true in
    let value = c.info-segment.ensures.value in
    let good : bad_field (segment_at c.args.heap.now c.loop-k.k) ≡ None =
    ap bad_field (sym value) ∙ sym c.bad_field.ensures.is ∙ c.in_default.is in
    subst (λ (n : ℕ). IsLookedTo segments c.args.at (c.loop-k.k + 1) (c.loop-k.front + n))
    (sym (ap (λ (n : ℕ). 48 + (c.info-segment.result.end - n)) c.first_place.ensures
    ∙ ap (λ (s : SegInfo). 48 + (s.end - first_place s)) value))
    (looked-more segments c.args.at c.loop-k.k c.loop-k.front (omega (arith, count, low)) c.loop-k.invariant
    c.info-segment.ensures.lawful good)

pub returns : goal.returns
returns c = λ memories are.
    let count = c.segments-k-end.ensures.count in
    let past = c.loop-k-test.false in
    looked-all c.args.heap.now.segments c.args.at c.loop-k.k c.loop-k.front (omega (arith, count, past))
    c.loop-k.invariant memories are
