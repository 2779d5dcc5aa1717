use Rattle.std.proofs.Common.{◌+◌, ap, arith}
use Rattle.clr_types.specs.declared.segment.SegInfo.{SegInfo}
use Rattle.clr_heap.specs.Memories.{word_address}
use Rattle.clr_heap.proofs.Addresses.{has_word}
use Rattle.clr_heap.proofs.Storing.{HasWord-store_in}
use Rattle.clr_heap_tests.proofs.heaps.poke.Goals as goal

pub set_byte-requires : goal.set_byte-requires
set_byte-requires g c =
    let base = ap (λ (s : SegInfo). s.base) c.info-segment.ensures.value in
    let all = ap (λ (s : SegInfo). s.base + s.reserved) c.info-segment.ensures.value in
    let z = c.info-segment.ensures.lawful.base in
    has_word c.args.heap.now c.args.k (word_address c.args.a) c.lawful.ensures c.requires.in_range (omega arith)
    (omega arith) (omega arith)

pub byte-requires : goal.byte-requires
byte-requires g c =
    let base = ap (λ (s : SegInfo). s.base) c.info-segment.ensures.value in
    let all = ap (λ (s : SegInfo). s.base + s.reserved) c.info-segment.ensures.value in
    let z = c.info-segment.ensures.lawful.base in
    let had = has_word c.args.heap.now c.args.k (word_address c.args.a) c.lawful.ensures c.requires.in_range
    (omega arith) (omega arith) (omega arith) in
    rw c.set_byte.ensures (HasWord-store_in c.args.heap.now.memories (word_address c.args.a) _
    (word_address c.args.a) had)

pub word-requires : goal.word-requires
word-requires g c =
    let base = ap (λ (s : SegInfo). s.base) c.info-segment.ensures.value in
    let all = ap (λ (s : SegInfo). s.base + s.reserved) c.info-segment.ensures.value in
    let z = c.info-segment.ensures.lawful.base in
    let had = has_word c.args.heap.now c.args.k (word_address c.args.a) c.lawful.ensures c.requires.in_range
    (omega arith) (omega arith) (omega arith) in
    rw c.set_byte.ensures (HasWord-store_in c.args.heap.now.memories (word_address c.args.a) _
    (word_address c.args.a) had)
