use Rattle.std.proofs.Common.{arith}
use Rattle.clr_sweep.proofs.AllBehind.{as_memories, behind_starts, behind_sweeps, counted_marked_heap, front_counted}
use Rattle.clr_sweep.proofs.AllBehind.{front_fits, next_parted, swept_marked_heap}
use Rattle.clr_sweep.proofs.SweptBehind.{with_memories}
use Rattle.clr_sweep.proofs.behind.sweep_parts.Goals as goal

pub loop-k-init : goal.loop-k-init
loop-k-init c = λ vm fs. behind_starts c.args.types.now c.args.heap.now (with_memories c.args.heap.now vm)

pub sweep_segment-tally-requires-clause-parted : goal.sweep_segment-tally-requires-clause-parted
sweep_segment-tally-requires-clause-parted c =
    let h = c.args.heap.now in
    let (v, fs) = c.requires.fronts in
    let marked = as_memories c.args.types.now h v c.args.fronts.now fs in
    next_parted c.args.types.now h v.memories c.args.fronts.now c.loop-k.heap c.loop-k.k c.loop-k.tally c.requires.heap
    c.requires.held c.requires.no_contexts marked (c.loop-k.invariant v.memories marked)
    (omega (arith, c.requires.count, c.loop-k-test.true))

pub sweep_segment-tally-requires-clause-counted : goal.sweep_segment-tally-requires-clause-counted
sweep_segment-tally-requires-clause-counted c =
    let h = c.args.heap.now in
    let (v, fs) = c.requires.fronts in
    let marked = as_memories c.args.types.now h v c.args.fronts.now fs in
    front_counted c.args.types.now h v.memories c.args.fronts.now c.loop-k.heap c.loop-k.k c.loop-k.tally
    c.requires.heap c.requires.held c.requires.no_contexts marked (c.loop-k.invariant v.memories marked)
    (omega (arith, c.requires.count, c.loop-k-test.true))

pub loop-k-preserved : goal.loop-k-preserved
loop-k-preserved c = λ vm fs.
    let swept = c.sweep_segment-tally.ensures in
    behind_sweeps c.args.types.now c.args.heap.now vm c.args.fronts.now c.loop-k.heap c.loop-k.k c.loop-k.tally
    c.requires.heap c.requires.held c.requires.no_contexts fs (c.loop-k.invariant vm fs)
    (omega (arith, c.requires.count, c.loop-k-test.true)) c.sweep_segment-tally.new.heap c.sweep_segment-tally.result
    swept.swept swept.tally swept.counted

pub returns-clause-swept : goal.returns-clause-swept
returns-clause-swept c = λ v fs.
    rw c.age.ensures.aged
    (swept_marked_heap c.args.types.now c.args.heap.now v c.args.fronts.now fs c.loop-k.heap c.loop-k.k c.loop-k.tally
    c.requires.heap c.requires.held
    (c.loop-k.invariant v.memories (as_memories c.args.types.now c.args.heap.now v c.args.fronts.now fs))
    (omega (arith, c.requires.count, c.loop-k.auto.k-end, c.loop-k-test.false)))

pub returns-clause-tally : goal.returns-clause-tally
returns-clause-tally c = λ v fs.
    counted_marked_heap c.args.types.now c.args.heap.now v c.args.fronts.now fs c.loop-k.heap c.loop-k.k
    c.loop-k.tally c.requires.heap c.requires.held
    (c.loop-k.invariant v.memories (as_memories c.args.types.now c.args.heap.now v c.args.fronts.now fs))
    (omega (arith, c.requires.count, c.loop-k.auto.k-end, c.loop-k-test.false))

pub overflow_add-counted : goal.overflow_add-counted
overflow_add-counted c =
    let h = c.args.heap.now in
    let (v, fs) = c.requires.fronts in
    let marked = as_memories c.args.types.now h v c.args.fronts.now fs in
    let fits = front_fits c.args.types.now h v.memories c.args.fronts.now c.loop-k.heap c.loop-k.k c.loop-k.tally
    c.requires.heap c.requires.held c.requires.no_contexts marked (c.loop-k.invariant v.memories marked)
    (omega (arith, c.requires.count, c.loop-k-test.true)) in
    omega (arith, fits)
