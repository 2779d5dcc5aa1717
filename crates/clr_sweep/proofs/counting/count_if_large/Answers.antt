use Rattle.std.proofs.Common.{◌≡◌, ap, sym, ◌∙◌, true, false}
use Rattle.std.proofs.lemmas.Bool.{both_ways}
use Rattle.clr_types.specs.Segments.{first_place, is_large_or_pinned}
use Rattle.clr_types.specs.declared.segment.SegInfo.{SegInfo}
use Rattle.clr_heap.specs.View.{first_of, last_of}
use Rattle.clr_heap.proofs.Framing.{lawful_at}
use Rattle.clr_sweep.specs.Passes.{plus}
use Rattle.clr_sweep.specs.SweptItems.{items_from, tally_among}
use Rattle.clr_sweep.proofs.MoreSwept.{whole_part}
use Rattle.clr_sweep.proofs.Tallies.{at_most_up}
use Rattle.clr_sweep.proofs.counting.count_if_large.Goals as goal

pub count_part-requires-clause-parted : goal.count_part-requires-clause-parted
count_part-requires-clause-parted c =
    rw c.info-segment.ensures.value (whole_part c.args.types.now c.args.heap.now c.args.k
    (c.requires.held.walkable c.args.k c.requires.in_range))

pub count_part-requires-clause-counted : goal.count_part-requires-clause-counted
count_part-requires-clause-counted c = rw c.info-segment.ensures.value c.requires.counted

pub returns-then-is_large_or_pinned-clause-large : goal.returns-then-is_large_or_pinned-clause-large
returns-then-is_large_or_pinned-clause-large c = λ on.
    c.count_part.ensures.tally
    ∙ ap (λ (s : SegInfo). plus c.args.before (tally_among c.args.heap.now (items_from c.args.types.now
    c.args.heap.now c.args.k (first_place s)))) c.info-segment.ensures.value

pub returns-then-is_large_or_pinned-clause-small : goal.returns-then-is_large_or_pinned-clause-small
returns-then-is_large_or_pinned-clause-small c = λ off.
    let on : is_large_or_pinned c.info-segment.result.kind ≡ true = sym c.is_large_or_pinned.ensures
    ∙ c.if-is_large_or_pinned.true in
    let there = ap (λ (s : SegInfo). is_large_or_pinned s.kind) c.info-segment.ensures.value in
    absurd (both_ways (is_large_or_pinned c.info-segment.result.kind) (there ∙ off) on)

pub returns-clause-large : goal.returns-clause-large
returns-clause-large c = λ on.
    let off : is_large_or_pinned c.info-segment.result.kind ≡ false = sym c.is_large_or_pinned.ensures
    ∙ c.if-is_large_or_pinned.false in
    let there = ap (λ (s : SegInfo). is_large_or_pinned s.kind) c.info-segment.ensures.value in
    absurd (both_ways (is_large_or_pinned c.info-segment.result.kind) off (there ∙ on))

pub returns-clause-counted : goal.returns-clause-counted
returns-clause-counted c =
    let low = (lawful_at c.args.heap.now c.args.k c.info-segment.ensures.heap c.requires.in_range).low in
    at_most_up c.args.before (first_of c.args.heap.now c.args.k) (last_of c.args.heap.now c.args.k) low
    c.requires.counted
