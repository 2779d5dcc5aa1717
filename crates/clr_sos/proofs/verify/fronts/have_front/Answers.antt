-- One of the threads has it where one of the fronts is it.
use Rattle.std.proofs.Common.{◌∙◌}
use Rattle.clr_sos.proofs.EarlierSteps.{among_any}
use Rattle.clr_sos.proofs.verify.fronts.have_front.Goals as goal

pub returns : goal.returns
returns c = c.any_front.ensures ∙ among_any c.args.earlier.now c.args.place
