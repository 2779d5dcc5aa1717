use Rattle.std.proofs.Common.{◌-◌, ◌≤◌}
use Rattle.clr_ctx.specs.Contexts.{IsIndex}
use Rattle.clr_ctx.proofs.GivingAll.{IsGivingUp}
use Rattle.clr_ctx.proofs.young_items.YoungItems.give_up_all.Given as goal

abbrev pub invariant-loop-t : goal.invariant-loop-t
invariant-loop-t l = (1 ≤ l.t) × (l.t ≤ 17) × IsGivingUp l.types l.initial.heap l.heap (l.t - 1)
    × IsIndex l.types l.heap l.self
