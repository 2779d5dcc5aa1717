use Rattle.std.proofs.Common.{◌-◌, ◌/◌, ap, arith, refl}
use Rattle.clr_types.specs.Segments.{reserved_end}
use Rattle.clr_generations.proofs.HeapHomes.{brick-covered, whole_bricks}
use Rattle.clr_compact.proofs.part_bricks.restore_both.Goals as goal

pub restore-requires-clause-covered : goal.restore-requires-clause-covered
restore-requires-clause-covered c =
    let h = c.args.heap.now in
    let whole = whole_bricks h c.args.k c.requires.heap c.requires.in_range in
    let base = whole.base in
    let reserved = whole.reserved in
    let low = c.requires.low in
    let high = c.requires.high in
    brick-covered h c.args.bricks.now c.args.bricks.now c.args.k (c.args.from / 4096 - 1) c.requires.heap
    c.requires.in_range c.requires.bricks refl (omega (arith, base, low), omega (arith, base, reserved, low, high))

pub restore-requires-then-brick-segment-clause-covered : goal.restore-requires-then-brick-segment-clause-covered
restore-requires-then-brick-segment-clause-covered c =
    let h = c.args.heap.now in
    let whole = whole_bricks h c.args.k c.requires.heap c.requires.in_range in
    let base = whole.base in
    let reserved = whole.reserved in
    let low = c.requires.low in
    let room = ap reserved_end c.info-segment.ensures.value in
    let test = c.if-brick-segment.true in
    brick-covered h c.args.bricks.now c.restore.new.bricks c.args.k (c.args.from / 4096) c.requires.heap
    c.requires.in_range c.requires.bricks c.restore.ensures.spans
    (omega (arith, base, low), omega (arith, base, reserved, room, test))
