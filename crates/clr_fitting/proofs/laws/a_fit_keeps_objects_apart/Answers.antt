use Rattle.clr_fitting.proofs.FitMoves.{fit_apart}
use Rattle.clr_fitting.proofs.laws.a_fit_keeps_objects_apart.Goals as goal

pub returns : goal.returns
returns c = fit_apart
