use Rattle.clr_fitting.proofs.PartFit.{left_items}
use Rattle.clr_fitting.proofs.laws.a_fit_leaves_items_apart.Goals as goal

pub returns : goal.returns
returns c = left_items
