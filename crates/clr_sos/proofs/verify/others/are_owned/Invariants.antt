use Rattle.std.proofs.Common.{◌-◌, ◌≤◌}
use Rattle.clr_model.specs.Lawful.{HasItsSecond}
use Rattle.clr_sos.proofs.HandlePasses.{GoodBelow}
use Rattle.clr_sos.proofs.verify.others.are_owned.Given as goal

abbrev pub invariant-loop-number : goal.invariant-loop-number
invariant-loop-number l = record {
  good : GoodBelow l.handles HasItsSecond l.from;
  within : l.from ≤ 65536;
}

abbrev pub decreases-loop-number : goal.decreases-loop-number
decreases-loop-number l = 65536 - l.from
