use Rattle.std.proofs.Common.{◌≡◌, ap, arith, ◌∙◌, length}
use Rattle.clr_sweep.specs.SweptLarge.{large_tally}
use Rattle.clr_sweep.proofs.LargeCounted.{more_large_counted, no_large_counted}
use Rattle.clr_sweep.proofs.counting.count_large.Goals as goal

pub loop-k-init : goal.loop-k-init
loop-k-init c = no_large_counted c.args.types.now c.args.heap.now

pub count_if_large-tally-requires-clause-in_range : goal.count_if_large-tally-requires-clause-in_range
count_if_large-tally-requires-clause-in_range c =
    let n = c.segments-count.ensures.count in omega (arith, n, c.loop-k-test.true)

pub count_if_large-tally-requires-clause-counted : goal.count_if_large-tally-requires-clause-counted
count_if_large-tally-requires-clause-counted c =
    let n = c.segments-count.ensures.count in
    c.loop-k.invariant.counted c.loop-k.k (omega arith) (omega (arith, n, c.loop-k-test.true))

pub loop-k-preserved : goal.loop-k-preserved
loop-k-preserved c =
    let n = c.segments-count.ensures.count in
    more_large_counted c.args.types.now c.args.heap.now c.loop-k.k c.loop-k.tally c.count_if_large-tally.result
    c.segments-count.ensures.heap c.requires.held c.requires.no_contexts (omega (arith, n, c.loop-k-test.true))
    c.loop-k.invariant c.count_if_large-tally.ensures.large c.count_if_large-tally.ensures.small
    c.count_if_large-tally.ensures.counted

pub returns-clause-tally : goal.returns-clause-tally
returns-clause-tally c =
    let n = c.segments-count.ensures.count in
    let within = c.loop-k.invariant.within in
    let end : c.loop-k.k ≡ length c.args.heap.now.segments = omega (arith, n, within, c.loop-k-test.false) in
    c.loop-k.invariant.counts ∙ ap (large_tally c.args.types.now c.args.heap.now) end

pub returns-clause-few : goal.returns-clause-few
returns-clause-few c = c.loop-k.invariant.few
