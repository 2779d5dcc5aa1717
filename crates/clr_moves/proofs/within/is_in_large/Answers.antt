use Rattle.std.proofs.Common.{◌+◌, ap, sym, ◌∙◌, arith, false, refl}
use Rattle.std.proofs.Common.{ltb}
use Rattle.std.proofs.lemmas.Bool.{both_ways, lt-ltb, ltb-true}
use Rattle.clr_types.specs.Segments.{same_kind}
use Rattle.clr_types.specs.declared.segment.SegInfo.{SegInfo}
use Rattle.clr_types.specs.declared.segment.SegKind.TheVariants.{Large}
use Rattle.clr_moves.proofs.SegmentsBelow.{in_large, IsBelow}
use Rattle.clr_moves.proofs.within.is_in_large.Goals as goal

pub returns-in-Small-clause-outside : goal.returns-in-Small-clause-outside
returns-in-Small-clause-outside c = λ off t i.
    let h = c.args.heap.now in
    let b : IsBelow h c.args.place c.segment_below.result = record {
      in_range = c.segment_below.ensures.in_range;
      below = c.segment_below.ensures.below;
      above = c.segment_below.ensures.above;
    } in
    let kind = ap (same_kind Large) (sym (ap (λ (s : SegInfo). s.kind) c.info-segment.ensures.value)
    ∙ c.in-Small.is) in
    both_ways false refl
    (sym kind ∙ (in_large h c.args.place c.requires c.segment_below.result t b i).kind)

pub returns-in-Ephemeral-clause-outside : goal.returns-in-Ephemeral-clause-outside
returns-in-Ephemeral-clause-outside c = λ off t i.
    let h = c.args.heap.now in
    let b : IsBelow h c.args.place c.segment_below.result = record {
      in_range = c.segment_below.ensures.in_range;
      below = c.segment_below.ensures.below;
      above = c.segment_below.ensures.above;
    } in
    let kind = ap (same_kind Large) (sym (ap (λ (s : SegInfo). s.kind) c.info-segment.ensures.value)
    ∙ c.in-Ephemeral.is) in
    both_ways false refl
    (sym kind ∙ (in_large h c.args.place c.requires c.segment_below.result t b i).kind)

pub returns-then-segment-place-clause-outside : goal.returns-then-segment-place-clause-outside
returns-then-segment-place-clause-outside c = λ off t i.
    let h = c.args.heap.now in
    let b : IsBelow h c.args.place c.segment_below.result = record {
      in_range = c.segment_below.ensures.in_range;
      below = c.segment_below.ensures.below;
      above = c.segment_below.ensures.above;
    } in
    let high = (in_large h c.args.place c.requires c.segment_below.result t b i).high in
    let base = ap (λ (s : SegInfo). s.base) c.info-segment.ensures.value in
    let size = ap (λ (s : SegInfo). s.reserved) c.info-segment.ensures.value in
    let end = c.info-segment.result.base + c.info-segment.result.reserved in
    both_ways (ltb c.args.place end) off (lt-ltb c.args.place end (omega (arith, high, base, size)))

pub returns-else-segment-place-clause-outside : goal.returns-else-segment-place-clause-outside
returns-else-segment-place-clause-outside c = λ off t i.
    let h = c.args.heap.now in
    let b : IsBelow h c.args.place c.segment_below.result = record {
      in_range = c.segment_below.ensures.in_range;
      below = c.segment_below.ensures.below;
      above = c.segment_below.ensures.above;
    } in
    let low = (in_large h c.args.place c.requires c.segment_below.result t b i).low in
    let base = ap (λ (s : SegInfo). s.base) c.info-segment.ensures.value in
    let under = c.if-segment-place.false in
    omega (arith, low, base, under)

pub returns-in-Pinned-clause-outside : goal.returns-in-Pinned-clause-outside
returns-in-Pinned-clause-outside c = λ off t i.
    let h = c.args.heap.now in
    let b : IsBelow h c.args.place c.segment_below.result = record {
      in_range = c.segment_below.ensures.in_range;
      below = c.segment_below.ensures.below;
      above = c.segment_below.ensures.above;
    } in
    let kind = ap (same_kind Large) (sym (ap (λ (s : SegInfo). s.kind) c.info-segment.ensures.value)
    ∙ c.in-Pinned.is) in
    both_ways false refl
    (sym kind ∙ (in_large h c.args.place c.requires c.segment_below.result t b i).kind)
