use Rattle.std.proofs.Common.{ℕ, ◌+◌, ap, sym, subst, arith}
use Rattle.clr_heap.specs.View.{HeapView}
use Rattle.clr_model.specs.Fitting.{lowest_item, older_items}
use Rattle.clr_view.specs.View.{layout_in}
use Rattle.clr_evacuate.proofs.CarryingBricks.{bricks_more, bricks_now, bricks_start}
use Rattle.clr_evacuate.proofs.GoingOn.{fewer, going_ends, going_on, going_starts, IsGoingOn, scan_now, young_run}
use Rattle.clr_evacuate.proofs.evacuating.carry_between.Goals as goal

pub loop-plug-init : goal.loop-plug-init
loop-plug-init c = (
  going_starts c.args.types.now c.args.heap.now c.args.k c.args.from c.args.end c.new-hints.result.hints
      c.requires.heap c.requires.held c.requires.can
      (c.new-hints.ensures c.args.types.now c.args.heap.now),
  bricks_start c.args.types.now c.args.heap.now c.args.bricks.now,
)

pub next_fitting-requires-clause-scan : goal.next_fitting-requires-clause-scan
next_fitting-requires-clause-scan c =
    scan_now c.args.types.now c.args.heap.now c.loop-plug.heap c.args.k c.args.from c.args.end c.loop-plug.place
    c.loop-plug.bytes c.loop-plug.hints.hints c.loop-plug.invariant.0

pub carry_fitting-bytes-requires-clause-run : goal.carry_fitting-bytes-requires-clause-run
carry_fitting-bytes-requires-clause-run c = (
  _,
  young_run c.args.types.now c.args.heap.now c.loop-plug.heap c.args.k c.args.from c.args.end c.loop-plug.place
      c.loop-plug.bytes c.loop-plug.hints.hints c.loop-plug.invariant.0 c.in-Some.plug c.in-Some.ensures,
)

pub carry_fitting-bytes-requires-clause-order : goal.carry_fitting-bytes-requires-clause-order
carry_fitting-bytes-requires-clause-order c =
    let order = c.requires.order in
    let shape = c.loop-plug.invariant.0.shape.others in
    let low = ap (λ (g : HeapView). g.start1) shape in
    let high = ap (λ (g : HeapView). g.start0) shape in
    omega (arith, order, low, high)

pub carry_fitting-bytes-requires-clause-bricks : goal.carry_fitting-bytes-requires-clause-bricks
carry_fitting-bytes-requires-clause-bricks c =
    bricks_now c.args.types.now c.args.heap.now c.loop-plug.heap c.args.bricks.now c.loop-plug.bricks
    c.loop-plug.invariant.0.shape c.requires.bricks c.loop-plug.invariant.1

pub overflow_add-bytes : goal.overflow_add-bytes
overflow_add-bytes c =
    let rows = c.args.types.now in
    let now = c.loop-plug.heap in
    let few = fewer rows c.args.heap.now now c.args.k c.args.from c.args.end c.loop-plug.place c.loop-plug.bytes
    c.loop-plug.hints.hints c.loop-plug.invariant.0 c.in-Some.plug c.in-Some.ensures
    c.carry_fitting-bytes.new.heap c.carry_fitting-bytes.result
    (lowest_item c.in-Some.plug.size (older_items (layout_in rows now)))
    (c.carry_fitting-bytes.ensures.fitted _ (young_run rows c.args.heap.now now c.args.k c.args.from c.args.end
    c.loop-plug.place c.loop-plug.bytes c.loop-plug.hints.hints c.loop-plug.invariant.0 c.in-Some.plug
    c.in-Some.ensures)) in
    let count = c.loop-plug.invariant.0.count in
    let above = c.in-Some.ensures.above in
    let within = c.in-Some.ensures.within in
    let top = c.ranges.end.fits in
    omega (arith, few, count, above, within, top)

pub loop-plug-preserved : goal.loop-plug-preserved
loop-plug-preserved c =
    let rows = c.args.types.now in (
      subst (λ (q : ℕ). IsGoingOn rows c.args.heap.now c.carry_fitting-bytes.new.heap c.args.k c.args.from c.args.end q
          (c.loop-plug.bytes + c.carry_fitting-bytes.result) c.carry_fitting-bytes.new.hints.hints)
          (sym c.end-place.ensures)
          (going_on rows c.args.heap.now c.loop-plug.heap c.args.k c.args.from c.args.end c.loop-plug.place
          c.loop-plug.bytes c.loop-plug.hints.hints c.loop-plug.invariant.0 c.in-Some.plug c.in-Some.ensures
          c.carry_fitting-bytes.new.heap c.carry_fitting-bytes.ensures.heap c.carry_fitting-bytes.result
          c.carry_fitting-bytes.ensures.fitted c.carry_fitting-bytes.ensures.older
          c.carry_fitting-bytes.new.hints.hints c.carry_fitting-bytes.ensures.hints),
      bricks_more rows c.args.heap.now c.loop-plug.heap c.carry_fitting-bytes.new.heap c.args.bricks.now
          c.loop-plug.bricks c.carry_fitting-bytes.new.bricks c.loop-plug.invariant.1
          c.carry_fitting-bytes.ensures.bricks c.carry_fitting-bytes.ensures.spans,
    )

pub returns-clause-bricks : goal.returns-clause-bricks
returns-clause-bricks c = c.loop-plug.invariant.1.law

pub returns-clause-spans : goal.returns-clause-spans
returns-clause-spans c = c.loop-plug.invariant.1.spans

pub returns-clause-made : goal.returns-clause-made
returns-clause-made c =
    going_ends c.args.types.now c.args.heap.now c.loop-plug.heap c.args.k c.args.from c.args.end c.loop-plug.place
    c.loop-plug.bytes c.loop-plug.hints.hints c.requires.heap c.requires.held c.loop-plug.invariant.0
    c.in_default.ensures
