use Rattle.std.proofs.Common.{◌+◌, ◌/◌, ap, arith, pos, refl, ◌∙◌}
use Rattle.clr_types.specs.Segments.{reserved_end}
use Rattle.clr_types.specs.declared.segment.SegInfo.{SegInfo}
use Rattle.clr_bricks.specs.Bricks.{entry_at}
use Rattle.clr_covers.proofs.Filling.{between-inside, between-outside}
use Rattle.clr_generations.proofs.HeapHomes.{bricks-shared}
use Rattle.clr_compact.proofs.part_bricks.clear_bricks.Goals as goal

pub clear-requires : goal.clear-requires
clear-requires c some =
    let r = c.requires in
    let base = ap (λ (s : SegInfo). s.base) c.info-segment.ensures.value in
    let room = ap reserved_end c.info-segment.ensures.value in
    bricks-shared c.args.heap.now c.args.bricks.now c.args.bricks.now c.args.k _ _ r.heap r.in_range r.bricks refl
    (omega (arith, base, some), omega (arith, base, room, some))
    (omega (arith, base, some), omega (arith, base, room, some))

pub returns-clause-none : goal.returns-clause-none
returns-clause-none c brick of =
    let s = c.info-segment.result in
    let base = ap (λ (t : SegInfo). t.base) c.info-segment.ensures.value in
    let room = ap reserved_end c.info-segment.ensures.value in
    let low = of.0 in
    let high = of.1 in
    c.clear.ensures.entries brick
    ∙ between-inside (pos 0) (entry_at c.args.bricks.now brick) (s.base / 4096) ((s.base + s.reserved) / 4096) brick
    (omega (arith, base, low)) (omega (arith, room, high))

pub returns-clause-others : goal.returns-clause-others
returns-clause-others c brick out =
    let s = c.info-segment.result in
    let base = ap (λ (t : SegInfo). t.base) c.info-segment.ensures.value in
    let room = ap reserved_end c.info-segment.ensures.value in
    c.clear.ensures.entries brick
    ∙ between-outside (pos 0) (entry_at c.args.bricks.now brick) (s.base / 4096) ((s.base + s.reserved) / 4096) brick
    (λ low high. out (omega (arith, base, low), omega (arith, room, high)))
