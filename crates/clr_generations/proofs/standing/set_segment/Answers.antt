use Rattle.std.proofs.Common.{◌≡◌, ℕ, ◌+◌, ◌/◌, ◌<◌, ◌≤◌, ap, arith}
use Rattle.clr_types.specs.declared.segment.SegInfo.{SegInfo}
use Rattle.clr_heap.specs.View.{last_of, segment_at}
use Rattle.clr_generations.proofs.EnteredSegments.{card-there}
use Rattle.clr_generations.proofs.standing.set_segment.Goals as goal

pub set_between-requires-clause-covered : goal.set_between-requires-clause-covered
set_between-requires-clause-covered c = λ i low high.
    let h = c.args.heap.now in
    let k = c.args.k in
    let base : c.info-segment.result.base ≡ (segment_at h k).base = ap (λ (s : SegInfo). s.base) c.info-segment.ensures.value in
    let end : c.info-segment.result.end ≡ last_of h k = ap (λ (s : SegInfo). s.end) c.info-segment.ensures.value in
    card-there h k c.info-segment.ensures.heap c.requires.in_range c.args.cards.now c.requires.cards i
    (omega (arith, base, low)) (omega (arith, end, high))
