use Rattle.std.proofs.Common.{◌≡◌, ap, arith, length}
use Rattle.clr_plan.proofs.LargeWholes.{large-laid, large-lays, large-planned, large_wholes, none-laid}
use Rattle.clr_plan.proofs.large.plan_large.Goals as goal

pub plan_whole-requires : goal.plan_whole-requires
plan_whole-requires c = record {
  can = (
    large_wholes c.args.types.now c.args.heap.now,
    large-lays c.args.types.now c.args.heap.now c.segments-count.ensures.heap c.requires.held c.requires.no_contexts
        c.requires.laid c.args.bricks.now c.args.pins.now c.requires.bricks c.requires.empty c.requires.spare
        c.segments-count.result c.segments-count.ensures.count c.next_part.result c.if-next_part-count.true
        c.next_part.ensures.takes,
  );
}

pub returns-then-next_part-count-clause-planned : goal.returns-then-next_part-count-clause-planned
returns-then-next_part-count-clause-planned c = λ m kept memory tests pins.
    let w = large_wholes c.args.types.now c.args.heap.now in
    let can = large-lays c.args.types.now c.args.heap.now c.segments-count.ensures.heap c.requires.held
    c.requires.no_contexts c.requires.laid c.args.bricks.now c.args.pins.now c.requires.bricks c.requires.empty
    c.requires.spare c.segments-count.result c.segments-count.ensures.count c.next_part.result
    c.if-next_part-count.true c.next_part.ensures.takes in
    let laid = c.plan_whole.ensures.laid w can in
    large-planned c.args.types.now c.args.heap.now c.segments-count.ensures.heap c.requires.held c.requires.no_contexts
    c.plan_whole.new.heap c.args.bricks.now c.plan_whole.new.bricks c.args.pins.now c.plan_whole.new.queue
    c.requires.laid
    (large-laid c.args.types.now c.args.heap.now c.segments-count.ensures.heap c.requires.held c.requires.no_contexts
    c.plan_whole.new.heap c.args.bricks.now c.plan_whole.new.bricks c.args.pins.now c.plan_whole.new.queue
    c.plan_whole.result.at c.segments-count.result c.segments-count.ensures.count laid)
    m kept memory tests pins c.requires.free_heads

pub returns-then-next_part-count-clause-spare : goal.returns-then-next_part-count-clause-spare
returns-then-next_part-count-clause-spare c =
    let w = large_wholes c.args.types.now c.args.heap.now in
    let can = large-lays c.args.types.now c.args.heap.now c.segments-count.ensures.heap c.requires.held
    c.requires.no_contexts c.requires.laid c.args.bricks.now c.args.pins.now c.requires.bricks c.requires.empty
    c.requires.spare c.segments-count.result c.segments-count.ensures.count c.next_part.result
    c.if-next_part-count.true c.next_part.ensures.takes in
    let count = (c.plan_whole.ensures.laid w can).laid.count in
    let none : length c.args.pins.now.entries ≡ 0 = ap length c.requires.empty in
    omega (arith, count, none)

pub returns-then-next_part-count-clause-entries : goal.returns-then-next_part-count-clause-entries
returns-then-next_part-count-clause-entries c = λ i out.
    let w = large_wholes c.args.types.now c.args.heap.now in
    let can = large-lays c.args.types.now c.args.heap.now c.segments-count.ensures.heap c.requires.held
    c.requires.no_contexts c.requires.laid c.args.bricks.now c.args.pins.now c.requires.bricks c.requires.empty
    c.requires.spare c.segments-count.result c.segments-count.ensures.count c.next_part.result
    c.if-next_part-count.true c.next_part.ensures.takes in
    let all = c.segments-count.ensures.count in
    (c.plan_whole.ensures.laid w can).laid.entries i (λ t l on. out t (omega (arith, l, all)) on)

pub returns-then-next_part-count-clause-spans : goal.returns-then-next_part-count-clause-spans
returns-then-next_part-count-clause-spans c =
    let w = large_wholes c.args.types.now c.args.heap.now in
    let can = large-lays c.args.types.now c.args.heap.now c.segments-count.ensures.heap c.requires.held
    c.requires.no_contexts c.requires.laid c.args.bricks.now c.args.pins.now c.requires.bricks c.requires.empty
    c.requires.spare c.segments-count.result c.segments-count.ensures.count c.next_part.result
    c.if-next_part-count.true c.next_part.ensures.takes in
    (c.plan_whole.ensures.laid w can).laid.spans_are

pub returns-else-next_part-count-clause-planned : goal.returns-else-next_part-count-clause-planned
returns-else-next_part-count-clause-planned c = λ m kept memory tests pins.
    let above = c.if-next_part-count.false in
    let all = c.segments-count.ensures.count in
    large-planned c.args.types.now c.args.heap.now c.segments-count.ensures.heap c.requires.held c.requires.no_contexts
    c.args.heap.now c.args.bricks.now c.args.bricks.now c.args.pins.now c.args.pins.now c.requires.laid
    (none-laid c.args.types.now c.args.heap.now c.segments-count.ensures.heap c.requires.held c.requires.no_contexts
    c.args.bricks.now c.args.pins.now c.requires.empty
    (λ t l. c.next_part.ensures.none t (omega arith) (omega (arith, above, all, l))))
    m kept memory tests pins c.requires.free_heads
