use Rattle.std.proofs.Common.{ℕ, subst, sym}
use Rattle.clr_moves.specs.declared.condemned.Condemned.TheVariants.{Generations}
use Rattle.clr_plan.specs.Counts.{HaveCounted}
use Rattle.clr_plan.proofs.CountedHeaps.{lower-counted}
use Rattle.clr_plan.proofs.Lower.{lower-none, lower-two}
use Rattle.clr_plan.proofs.SmallWholes.{small-lays, small_wholes}
use Rattle.clr_plan.proofs.heaps.plan_lower.Goals as goal

pub plan_whole-requires : goal.plan_whole-requires
plan_whole-requires c = record {
  can = (
    small_wholes c.args.types.now c.args.heap.now c.args.e,
    small-lays c.args.types.now c.args.heap.now c.args.g c.args.e c.if-g-eq2.true c.requires.can c.args.bricks.now
        c.args.queue.now c.requires.bricks c.requires.empty c.requires.spare,
  );
}

pub returns-then-g-eq2 : goal.returns-then-g-eq2
returns-then-g-eq2 c = record {
  laid = lower-two c.args.types.now c.args.heap.now c.plan_whole.new.heap c.args.bricks.now c.plan_whole.new.bricks
      c.args.queue.now c.plan_whole.new.queue c.args.g c.args.e c.args.low c.plan_whole.result.at c.requires.can
      c.requires.low c.requires.bricks c.requires.spare c.if-g-eq2.true
      (c.plan_whole.ensures.laid (small_wholes c.args.types.now c.args.heap.now c.args.e)
      (small-lays c.args.types.now c.args.heap.now c.args.g c.args.e c.if-g-eq2.true c.requires.can c.args.bricks.now
      c.args.queue.now c.requires.bricks c.requires.empty c.requires.spare));
  counted = subst (λ (n : ℕ). HaveCounted c.args.types.now c.args.heap.now (Generations n) c.args.e
      c.plan_whole.result.counts) (sym c.if-g-eq2.true)
      (c.plan_whole.ensures.counted (small_wholes c.args.types.now c.args.heap.now c.args.e)
      (small-lays c.args.types.now c.args.heap.now c.args.g c.args.e c.if-g-eq2.true c.requires.can c.args.bricks.now
      c.args.queue.now c.requires.bricks c.requires.empty c.requires.spare));
}

pub returns-else-g-eq2 : goal.returns-else-g-eq2
returns-else-g-eq2 c = record {
  laid = lower-none c.args.types.now c.args.heap.now c.args.bricks.now c.args.queue.now c.args.g c.args.e c.args.low
      c.young_pointer.result c.requires.can c.requires.low c.requires.bricks c.requires.spare c.if-g-eq2.false
      c.requires.empty c.young_pointer.ensures;
  counted = subst (HaveCounted c.args.types.now c.args.heap.now (Generations c.args.g) c.args.e) (sym c.none.ensures)
      (lower-counted c.args.types.now c.args.heap.now c.args.g c.args.e c.requires.can c.if-g-eq2.false);
}
