use Rattle.std.proofs.Common.{◌≡◌, ◌+◌, ◌<◌, length, ap, arith}
use Rattle.clr_types.specs.declared.segment.SegInfo.{SegInfo}
use Rattle.clr_types.specs.Segments.{reserved_end}
use Rattle.clr_heap.specs.View.{segment_at}
use Rattle.clr_heap.proofs.Addresses.{has_word}
use Rattle.clr_sos_tests.proofs.faults.put_in.Goals as goal

pub set_word-requires : goal.set_word-requires
set_word-requires g c =
    let h = c.args.heap.now in
    let value = c.info-segment.ensures.value in
    let base : c.info-segment.result.base ≡ (segment_at h c.args.k).base = ap (λ (s : SegInfo). s.base) value in
    let end : c.info-segment.result.base + c.info-segment.result.reserved ≡ reserved_end (segment_at h c.args.k) =
    ap (λ (s : SegInfo). s.base + s.reserved) value in
    let some : c.args.k < length h.segments = omega arith in
    has_word h c.args.k c.args.a c.segments.ensures.heap some (omega arith) (omega arith) (omega arith)
