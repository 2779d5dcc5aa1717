use Rattle.std.proofs.Common.{arith}
use Rattle.clr_sweep.proofs.LargeSteps.{renewing_more}
use Rattle.clr_sweep.proofs.large.renew_large_bricks.Goals as goal

pub loop-k-preserved : goal.loop-k-preserved
loop-k-preserved c =
    let now = c.renew_if_large.ensures in
    renewing_more c.args.types.now c.args.heap.now c.requires.heap c.requires.held c.args.bricks.now c.loop-k.bricks
    c.renew_if_large.new.bricks c.loop-k.k (omega (arith, c.requires.count, c.loop-k-test.true)) c.loop-k.invariant
    now.entered now.others now.small now.spans
