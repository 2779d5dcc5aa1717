use Rattle.clr_fitting.proofs.SeenFitted.{fitted_seen}
use Rattle.clr_fitting.proofs.laws.a_fit_is_seen_by_places.Goals as goal

pub returns : goal.returns
returns c = fitted_seen
