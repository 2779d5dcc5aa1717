use Rattle.clr_fitting.proofs.PartFit.{older_are_items}
use Rattle.clr_fitting.proofs.laws.older_items_are_apart.Goals as goal

pub returns : goal.returns
returns c = older_are_items
