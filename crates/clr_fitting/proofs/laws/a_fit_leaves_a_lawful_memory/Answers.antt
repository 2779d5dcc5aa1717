use Rattle.clr_fitting.proofs.TwoSteps.{stays_laid}
use Rattle.clr_fitting.proofs.laws.a_fit_leaves_a_lawful_memory.Goals as goal

pub returns : goal.returns
returns c = stays_laid
