use Rattle.std.proofs.Common.{◌+◌, ap, arith, sym}
use Rattle.clr_types.specs.declared.segment.SegInfo.{SegInfo}
use Rattle.clr_heap.proofs.Addresses.{has_word, index_is_segment}
use Rattle.clr_bgmark.proofs.front.free_end.Goals as goal

pub word_at-requires-clause-word : goal.word_at-requires-clause-word
word_at-requires-clause-word c =
    let info = c.info-end.ensures in
    let low = c.requires.low in
    let z = c.requires.aligned in
    let high = info.lawful.high in
    let end = ap (λ (s : SegInfo). s.end) info.value in
    let inside = c.if-past-end.false in
    has_word c.args.heap.now c.args.k c.args.place info.heap c.requires.in_range low z
    (omega (arith, high, end, inside))

pub word_at-requires-clause-segment : goal.word_at-requires-clause-segment
word_at-requires-clause-segment c =
    let info = c.info-end.ensures in
    let low = c.requires.low in
    let high = info.lawful.high in
    let end = ap (λ (s : SegInfo). s.end) info.value in
    let inside = c.if-past-end.false in
    sym (index_is_segment c.args.heap.now c.args.k c.args.place info.heap c.requires.in_range low
    (omega (arith, high, end, inside)))

pub word_at-length-requires-clause-word : goal.word_at-length-requires-clause-word
word_at-length-requires-clause-word c =
    let info = c.info-end.ensures in
    let low = c.requires.low in
    let z = c.requires.aligned in
    let high = info.lawful.high in
    let end = ap (λ (s : SegInfo). s.end) info.value in
    let inside = c.if-past-end.false in
    has_word c.args.heap.now c.args.k (c.args.place + 8) info.heap c.requires.in_range (omega (arith, low))
    (omega (arith, z)) (omega (arith, high, end, inside))

pub word_at-length-requires-clause-segment : goal.word_at-length-requires-clause-segment
word_at-length-requires-clause-segment c =
    let info = c.info-end.ensures in
    let low = c.requires.low in
    let high = info.lawful.high in
    let end = ap (λ (s : SegInfo). s.end) info.value in
    let inside = c.if-past-end.false in
    sym (index_is_segment c.args.heap.now c.args.k (c.args.place + 8) info.heap c.requires.in_range
    (omega (arith, low)) (omega (arith, high, end, inside)))
