use Rattle.clr_fitting.proofs.FitMoves.{move_is}
use Rattle.clr_fitting.proofs.laws.moves_of_a_fit_cross_the_first_boundary.Goals as goal

pub returns : goal.returns
returns c = move_is
