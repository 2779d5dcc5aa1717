use Rattle.clr_fitting.proofs.TwoSteps.{two_steps}
use Rattle.clr_fitting.proofs.laws.a_fit_and_a_compaction_are_a_fitting.Goals as goal

pub returns : goal.returns
returns c = two_steps
