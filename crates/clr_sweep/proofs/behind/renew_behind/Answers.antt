use Rattle.std.proofs.Common.{arith}
use Rattle.clr_sweep.specs.Fronts.{front_at}
use Rattle.clr_sweep.proofs.FrontFacts.{part_high, part_low}
use Rattle.clr_sweep.proofs.RenewedBehind.{behind_more, behind_start, front_aged, parted_of}
use Rattle.clr_sweep.proofs.YoungTables.{young_border}
use Rattle.clr_sweep.proofs.behind.renew_behind.Goals as goal

pub loop-k-init : goal.loop-k-init
loop-k-init c = behind_start c.args.types.now c.args.heap.now c.args.fronts.now c.args.bricks.now c.requires.brick_law

pub renew_bricks-requires-clause-low : goal.renew_bricks-requires-clause-low
renew_bricks-requires-clause-low c =
    part_low c.args.types.now c.args.heap.now c.loop-k.k (front_at c.args.fronts.now c.loop-k.k).place
    (parted_of c.args.types.now c.args.heap.now c.requires.fronts.0 c.args.fronts.now c.requires.fronts.1 c.loop-k.k
    (omega (arith, c.segments-count.ensures.count, c.loop-k-test.true)))

pub renew_bricks-requires-clause-high : goal.renew_bricks-requires-clause-high
renew_bricks-requires-clause-high c =
    part_high c.args.types.now c.args.heap.now c.loop-k.k (front_at c.args.fronts.now c.loop-k.k).place
    (parted_of c.args.types.now c.args.heap.now c.requires.fronts.0 c.args.fronts.now c.requires.fronts.1 c.loop-k.k
    (omega (arith, c.segments-count.ensures.count, c.loop-k-test.true)))

pub renew_bricks-requires-clause-young : goal.renew_bricks-requires-clause-young
renew_bricks-requires-clause-young c =
    young_border c.args.types.now c.args.heap.now c.segments-count.ensures.heap c.requires.held c.requires.no_contexts
    c.requires.laid c.loop-k.k (omega (arith, c.segments-count.ensures.count, c.loop-k-test.true))

pub renew_bricks-requires-clause-old : goal.renew_bricks-requires-clause-old
renew_bricks-requires-clause-old c =
    front_aged c.args.types.now c.args.heap.now c.requires.fronts.0 c.args.fronts.now c.requires.fronts.1 c.loop-k.k
    (omega (arith, c.segments-count.ensures.count, c.loop-k-test.true))

pub renew_bricks-requires-clause-law : goal.renew_bricks-requires-clause-law
renew_bricks-requires-clause-law c =
    c.loop-k.invariant.ahead c.loop-k.k (omega arith)
    (omega (arith, c.segments-count.ensures.count, c.loop-k-test.true))

pub loop-k-preserved : goal.loop-k-preserved
loop-k-preserved c =
    behind_more c.args.types.now c.args.heap.now c.args.fronts.now c.segments-count.ensures.heap c.requires.held
    c.args.bricks.now c.loop-k.bricks c.renew_bricks.new.bricks c.loop-k.k
    (omega (arith, c.segments-count.ensures.count, c.loop-k-test.true)) c.loop-k.invariant
    c.renew_bricks.ensures.entered c.renew_bricks.ensures.others c.renew_bricks.ensures.spans
