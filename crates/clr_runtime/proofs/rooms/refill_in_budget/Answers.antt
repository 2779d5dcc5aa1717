-- A new context within the budget, or nothing has changed.
use Rattle.std.proofs.Common.{◌+◌, ◌<◌, ◌^◌, arith}
use Rattle.clr_runtime.proofs.RefillKept.{over_budget, within_budget}
use Rattle.clr_runtime.proofs.RuntimeKept.{spent_fits}
use Rattle.clr_runtime.proofs.rooms.refill_in_budget.Goals as goal

pub overflow_add-parts : goal.overflow_add-parts
overflow_add-parts c =
    let fits : c.args.parts.now.sums.spent0 + c.args.size < 2 ^ 64 =
    spent_fits c.requires.runtime.shown c.args.size c.requires.most in
    omega arith

pub returns-then-parts-size-clause-refilled : goal.returns-then-parts-size-clause-refilled
returns-then-parts-size-clause-refilled c =
    over_budget c.args.parts.now c.args.thread c.args.size c.if-parts-size.true

pub returns-clause-refilled : goal.returns-clause-refilled
returns-clause-refilled c =
    within_budget c.args.parts.now c.refill.new.parts c.args.thread c.args.size c.refill.result c.if-parts-size.false
    c.refill.ensures.refilled
