use Rattle.clr_model.proofs.PieceBytes.{sums_bounded}
use Rattle.clr_model.proofs.laws.sums_stay_below_the_limit.Goals as goal

pub returns : goal.returns
returns c = sums_bounded
