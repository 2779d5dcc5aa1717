use Rattle.clr_fitting.proofs.FitMoves.{below_stays}
use Rattle.clr_fitting.proofs.laws.a_fit_leaves_what_stands_below.Goals as goal

pub returns : goal.returns
returns c = below_stays
