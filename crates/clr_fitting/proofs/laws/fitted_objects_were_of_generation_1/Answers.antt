use Rattle.clr_fitting.proofs.TwoSteps.{fitted_object}
use Rattle.clr_fitting.proofs.laws.fitted_objects_were_of_generation_1.Goals as goal

pub returns : goal.returns
returns c = fitted_object
