use Rattle.clr_model.proofs.StepNumbers.{steps_fit}
use Rattle.clr_model.proofs.laws.steps_fit.Goals as goal

pub returns : goal.returns
returns c = steps_fit
