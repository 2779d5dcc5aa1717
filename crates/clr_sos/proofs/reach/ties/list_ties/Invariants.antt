use Rattle.std.proofs.Common.{◌-◌}
use Rattle.clr_sos.proofs.Ties.{ListsBelow}
use Rattle.clr_sos.proofs.reach.ties.list_ties.Given as goal

abbrev pub invariant-loop-number : goal.invariant-loop-number
invariant-loop-number l = ListsBelow l.handles l.from l.ties.items

abbrev pub decreases-loop-number : goal.decreases-loop-number
decreases-loop-number l = 65536 - l.from
