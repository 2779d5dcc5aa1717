use Rattle.std.proofs.Common.{take}
use Rattle.clr_items.specs.Stretches.{HaveAtMost}
use Rattle.clr_items.proofs.stretches.most_in.Given as goal

abbrev pub invariant-loop-item : goal.invariant-loop-item
invariant-loop-item l = HaveAtMost l.most (take l.item-index l.items)
