use Rattle.clr_fitting.proofs.FitLists.{fit_append}
use Rattle.clr_fitting.proofs.laws.a_fit_goes_on.Goals as goal

pub returns : goal.returns
returns c = fit_append
