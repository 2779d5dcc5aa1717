use Rattle.std.proofs.Common.{◌+◌, ap, arith}
use Rattle.clr_types.specs.declared.segment.SegInfo.{SegInfo}
use Rattle.clr_heap.proofs.Addresses.{has_word}
use Rattle.clr_heap_tests.proofs.saved.write.Goals as goal

pub set_logical_word-requires : goal.set_logical_word-requires
set_logical_word-requires g c =
    let base = ap (λ (s : SegInfo). s.base) c.info-segment.ensures.value in
    let all = ap (λ (s : SegInfo). s.base + s.reserved) c.info-segment.ensures.value in
    has_word c.args.heap.now 0 c.args.a c.segments.ensures.heap (omega arith) (omega (arith, base)) (omega arith)
    (omega (arith, all))
