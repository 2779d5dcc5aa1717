use Rattle.std.proofs.Common.{◌+◌, refl, ap, ◌∙◌, arith}
use Rattle.clr_types.specs.declared.segment.SegInfo.{SegInfo}
use Rattle.clr_heap.specs.Memories.{shapes}
use Rattle.clr_heap.specs.View.{HeapView, stored}
use Rattle.clr_heap.proofs.Addresses.{has_word, in_one_segment, InOne-shapes}
use Rattle.clr_heap.proofs.Storing.{HasWord-shapes, shapes-store_in}
use Rattle.clr_heap_tests.proofs.heaps.shift.Goals as goal

pub segment_of-requires : goal.segment_of-requires
segment_of-requires g c =
    let base = ap (λ (s : SegInfo). s.base) c.info-segment.ensures.value in
    let all = ap (λ (s : SegInfo). s.base + s.reserved) c.info-segment.ensures.value in
    let down = c.requires.down in
    has_word c.args.heap.now c.args.k c.args.from c.lawful.ensures c.requires.in_range
    (omega arith) c.requires.from_aligned (omega arith)

pub move_cells-requires-clause-from_in : goal.move_cells-requires-clause-from_in
move_cells-requires-clause-from_in g c =
    let base = ap (λ (s : SegInfo). s.base) c.info-segment.ensures.value in
    let all = ap (λ (s : SegInfo). s.base + s.reserved) c.info-segment.ensures.value in
    let down = c.requires.down in
    let h = c.args.heap.now in
    let had = in_one_segment h c.args.k c.args.from c.lawful.ensures c.requires.in_range
    (omega arith) 8 c.requires.from_aligned refl (omega arith) (omega arith) in
    rw c.set_word.ensures.value (InOne-shapes h.memories (stored h c.args.from c.args.v).memories c.args.from 8
    (shapes-store_in h.memories c.args.from c.args.v) had)

pub move_cells-requires-clause-to_in : goal.move_cells-requires-clause-to_in
move_cells-requires-clause-to_in g c =
    let base = ap (λ (s : SegInfo). s.base) c.info-segment.ensures.value in
    let all = ap (λ (s : SegInfo). s.base + s.reserved) c.info-segment.ensures.value in
    let down = c.requires.down in
    let h = c.args.heap.now in
    let had = in_one_segment h c.args.k c.args.to c.lawful.ensures c.requires.in_range
    (omega arith) 8 c.requires.to_aligned refl (omega arith) (omega arith) in
    rw c.set_word.ensures.value (InOne-shapes h.memories (stored h c.args.from c.args.v).memories c.args.to 8
    (shapes-store_in h.memories c.args.from c.args.v) had)

pub word-requires : goal.word-requires
word-requires g c =
    let base = ap (λ (s : SegInfo). s.base) c.info-segment.ensures.value in
    let all = ap (λ (s : SegInfo). s.base + s.reserved) c.info-segment.ensures.value in
    let down = c.requires.down in
    let h = c.args.heap.now in
    let had = has_word h c.args.k c.args.to c.lawful.ensures c.requires.in_range (omega arith) c.requires.to_aligned
    (omega arith) in
    HasWord-shapes h.memories c.move_cells.new.self.memories c.args.to
    (c.move_cells.ensures.shape.memories ∙ ap (λ (q : HeapView). shapes q.memories) c.set_word.ensures.value
    ∙ shapes-store_in h.memories c.args.from c.args.v) had
