use Rattle.std.proofs.Common.{◌/◌, ◌-◌, arith, refl}
use Rattle.clr_heap.proofs.Framing.{lawful_at}
use Rattle.clr_plan.proofs.Covering.{brick-there}
use Rattle.clr_plan.proofs.heaps.entries_at.Goals as goal

pub entry-below-requires : goal.entry-below-requires
entry-below-requires c =
    let segment = lawful_at c.args.heap.now c.args.e c.requires.heap c.requires.inside in
    let base = segment.base in
    let lowest = segment.lowest in
    let low = c.requires.low in
    let high = c.requires.high in
    brick-there c.args.heap.now c.args.e c.requires.heap c.requires.inside c.args.bricks.now c.args.bricks.now
    c.requires.bricks refl (c.args.low / 4096 - 1) (omega (arith, base, lowest, low))
    (omega (arith, base, lowest, low, high))
