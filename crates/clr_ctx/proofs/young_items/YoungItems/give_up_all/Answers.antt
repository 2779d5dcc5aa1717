use Rattle.std.proofs.Common.{◌≡◌, suc, ◌+◌, ◌-◌, subst, arith}
use Rattle.clr_ctx.proofs.GivingAll.{giving_ends, giving_starts, giving_step, IsGivingUp}
use Rattle.clr_ctx.proofs.young_items.YoungItems.give_up_all.Goals as goal

pub loop-t-init : goal.loop-t-init
loop-t-init c = (
  omega arith,
  omega arith,
  giving_starts c.args.types.now c.args.heap.now c.requires.held,
  c.requires.index,
)

pub loop-t-preserved : goal.loop-t-preserved
loop-t-preserved c =
    let inv = c.loop-t.invariant in
    let more = c.loop-t-test.true in
    let n = c.loop-t.t - 1 in
    let number : c.loop-t.t ≡ suc n = omega (arith, inv) in
    let next : suc n ≡ c.loop-t.t + 1 - 1 = omega (arith, inv) in (
      omega arith,
      omega (arith, more),
      subst (IsGivingUp c.args.types.now c.args.heap.now c.give_up.new.heap) next
          (giving_step c.args.types.now c.args.heap.now c.loop-t.heap c.give_up.new.heap n c.loop-t.t number inv.2
          c.give_up.ensures.relaid),
      c.give_up.ensures.index,
    )

pub returns-clause-given : goal.returns-clause-given
returns-clause-given c =
    let inv = c.loop-t.invariant in
    let done = c.loop-t-test.false in
    giving_ends c.args.types.now c.args.heap.now c.loop-t.heap (c.loop-t.t - 1) c.requires.held
    (omega (arith, inv, done)) inv.2
