use Rattle.clr_fitting.proofs.FittedBytes.{fitted_bytes_are}
use Rattle.clr_fitting.proofs.laws.fitted_bytes_are_those_of_the_moves.Goals as goal

pub returns : goal.returns
returns c = fitted_bytes_are
