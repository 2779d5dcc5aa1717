use Rattle.clr_fitting.proofs.TwoSteps.{others_left}
use Rattle.clr_fitting.proofs.laws.a_fit_leaves_the_others.Goals as goal

pub returns : goal.returns
returns c = others_left
