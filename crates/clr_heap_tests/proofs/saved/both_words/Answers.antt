use Rattle.std.proofs.Common.{◌+◌, ap, arith}
use Rattle.clr_types.specs.declared.segment.SegInfo.{SegInfo}
use Rattle.clr_heap.proofs.Addresses.{has_word}
use Rattle.clr_heap_tests.proofs.saved.both_words.Goals as goal

pub logical_word-requires : goal.logical_word-requires
logical_word-requires g c =
    let base = ap (λ (s : SegInfo). s.base) c.info-segment.ensures.value in
    let all = ap (λ (s : SegInfo). s.base + s.reserved) c.info-segment.ensures.value in
    has_word c.args.heap.now 0 c.args.a c.segments.ensures.heap (omega arith) (omega (arith, base)) (omega arith)
    (omega (arith, all))

pub word-requires : goal.word-requires
word-requires g c =
    let base = ap (λ (s : SegInfo). s.base) c.info-segment.ensures.value in
    let all = ap (λ (s : SegInfo). s.base + s.reserved) c.info-segment.ensures.value in
    has_word c.args.heap.now 0 c.args.a c.segments.ensures.heap (omega arith) (omega (arith, base)) (omega arith)
    (omega (arith, all))
