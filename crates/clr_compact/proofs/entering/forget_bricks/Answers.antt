use Rattle.std.proofs.Common.{◌/◌, arith, refl}
use Rattle.clr_generations.proofs.HeapHomes.{brick-covered, bricks-shared, whole_bricks}
use Rattle.clr_compact.proofs.entering.forget_bricks.Goals as goal

pub forget-requires-clause-covered : goal.forget-requires-clause-covered
forget-requires-clause-covered c =
    let r = c.requires in
    let h = c.args.heap.now in
    let test = c.if-brick-end.true in
    let low = r.low in
    let high = r.high in
    let whole = whole_bricks h c.args.k r.heap r.in_range in
    let base = whole.base in
    let reserved = whole.reserved in
    brick-covered h c.args.bricks.now c.args.bricks.now c.args.k (c.args.from / 4096) r.heap r.in_range r.bricks refl
    (omega (arith, base, low), omega (arith, base, reserved, test, high))

pub clear-requires : goal.clear-requires
clear-requires c some =
    let r = c.requires in
    let h = c.args.heap.now in
    let low = r.low in
    let high = r.high in
    let whole = whole_bricks h c.args.k r.heap r.in_range in
    let base = whole.base in
    let reserved = whole.reserved in
    bricks-shared h c.args.bricks.now c.forget.new.bricks c.args.k _ _ r.heap r.in_range r.bricks c.forget.ensures.spans
    (omega (arith, base, low), omega (arith, base, reserved, some, high))
    (omega (arith, base, low, some), omega (arith, base, reserved, some, high))
