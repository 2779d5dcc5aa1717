use Rattle.std.proofs.Common.{◌+◌, ap, sym, ◌∙◌, arith, false, refl}
use Rattle.std.proofs.Common.{ltb}
use Rattle.std.proofs.lemmas.Bool.{both_ways, lt-ltb}
use Rattle.clr_types.specs.Segments.{is_small_or_ephemeral, same_kind}
use Rattle.clr_types.specs.declared.segment.SegInfo.{SegInfo}
use Rattle.clr_types.specs.declared.segment.SegKind.TheVariants.{Ephemeral}
use Rattle.clr_moves.proofs.SegmentsBelow.{in_segment, IsBelow, not_young_segment}
use Rattle.clr_moves.proofs.within.is_in_small.Goals as goal

pub returns-then-segment-place-clause-outside : goal.returns-then-segment-place-clause-outside
returns-then-segment-place-clause-outside c = λ off t i.
    let h = c.args.heap.now in
    let b : IsBelow h c.args.place c.segment_below.result = record {
      in_range = c.segment_below.ensures.in_range;
      below = c.segment_below.ensures.below;
      above = c.segment_below.ensures.above;
    } in
    let high = (in_segment h c.args.place c.requires.heap c.segment_below.result t b i).high in
    let base = ap (λ (s : SegInfo). s.base) c.info-segment.ensures.value in
    let size = ap (λ (s : SegInfo). s.reserved) c.info-segment.ensures.value in
    let end = c.info-segment.result.base + c.info-segment.result.reserved in
    both_ways (ltb c.args.place end) off (lt-ltb c.args.place end (omega (arith, high, base, size)))

pub returns-else-segment-place-clause-outside : goal.returns-else-segment-place-clause-outside
returns-else-segment-place-clause-outside c = λ off t i.
    let h = c.args.heap.now in
    let b : IsBelow h c.args.place c.segment_below.result = record {
      in_range = c.segment_below.ensures.in_range;
      below = c.segment_below.ensures.below;
      above = c.segment_below.ensures.above;
    } in
    let low = (in_segment h c.args.place c.requires.heap c.segment_below.result t b i).low in
    let base = ap (λ (s : SegInfo). s.base) c.info-segment.ensures.value in
    let under = c.if-segment-place.false in
    omega (arith, low, base, under)

pub returns-in-Ephemeral-clause-outside : goal.returns-in-Ephemeral-clause-outside
returns-in-Ephemeral-clause-outside c = λ off t i.
    let h = c.args.heap.now in
    let b : IsBelow h c.args.place c.segment_below.result = record {
      in_range = c.segment_below.ensures.in_range;
      below = c.segment_below.ensures.below;
      above = c.segment_below.ensures.above;
    } in
    let heap = c.requires.heap in
    let kind = ap (same_kind Ephemeral) (sym (ap (λ (s : SegInfo). s.kind) c.info-segment.ensures.value)
    ∙ c.in-Ephemeral.is) in
    not_young_segment h c.args.place heap c.segment_below.result c.segment_below.ensures.in_range kind c.requires.away
    (in_segment h c.args.place heap c.segment_below.result t b i)

pub returns-in-Large-clause-outside : goal.returns-in-Large-clause-outside
returns-in-Large-clause-outside c = λ off t i.
    let h = c.args.heap.now in
    let b : IsBelow h c.args.place c.segment_below.result = record {
      in_range = c.segment_below.ensures.in_range;
      below = c.segment_below.ensures.below;
      above = c.segment_below.ensures.above;
    } in
    let kind = ap is_small_or_ephemeral (sym (ap (λ (s : SegInfo). s.kind) c.info-segment.ensures.value)
    ∙ c.in-Large.is) in
    both_ways false refl
    (sym kind ∙ (in_segment h c.args.place c.requires.heap c.segment_below.result t b i).kind)

pub returns-in-Pinned-clause-outside : goal.returns-in-Pinned-clause-outside
returns-in-Pinned-clause-outside c = λ off t i.
    let h = c.args.heap.now in
    let b : IsBelow h c.args.place c.segment_below.result = record {
      in_range = c.segment_below.ensures.in_range;
      below = c.segment_below.ensures.below;
      above = c.segment_below.ensures.above;
    } in
    let kind = ap is_small_or_ephemeral (sym (ap (λ (s : SegInfo). s.kind) c.info-segment.ensures.value)
    ∙ c.in-Pinned.is) in
    both_ways false refl
    (sym kind ∙ (in_segment h c.args.place c.requires.heap c.segment_below.result t b i).kind)
