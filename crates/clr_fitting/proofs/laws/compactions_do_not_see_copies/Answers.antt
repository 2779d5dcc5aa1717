use Rattle.clr_fitting.proofs.Copies.{copied_alike}
use Rattle.clr_fitting.proofs.laws.compactions_do_not_see_copies.Goals as goal

pub returns : goal.returns
returns c = copied_alike
