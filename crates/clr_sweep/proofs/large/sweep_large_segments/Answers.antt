use Rattle.std.proofs.Common.{◌<◌, length, arith}
use Rattle.clr_sweep.proofs.LargeSteps.{large_below, large_not_yet, large_sweeps}
use Rattle.clr_sweep.proofs.MoreSwept.{parted_more}
use Rattle.clr_sweep.proofs.large.sweep_large_segments.Goals as goal

pub sweep_if_large-requires-clause-parted : goal.sweep_if_large-requires-clause-parted
sweep_if_large-requires-clause-parted c =
    let rows = c.args.types.now in
    let old = c.args.heap.now in
    let k = c.loop-k.k in
    let inside : k < length old.segments = omega (arith, c.requires.count, c.loop-k-test.true) in
    parted_more rows old c.loop-k.heap (large_below old k) k c.requires.heap c.requires.held
    c.loop-k.invariant.0 inside
    (large_not_yet rows old c.loop-k.heap k c.requires.heap c.requires.held c.loop-k.invariant.0 inside)

pub loop-k-preserved : goal.loop-k-preserved
loop-k-preserved c = (
  large_sweeps c.args.types.now c.args.heap.now c.loop-k.heap c.loop-k.k c.requires.heap c.requires.held
      c.loop-k.invariant.0 (omega (arith, c.requires.count, c.loop-k-test.true)) c.sweep_if_large.new.heap
      c.sweep_if_large.ensures.large c.sweep_if_large.ensures.small,
  c.sweep_if_large.ensures.lawful,
)
