use Rattle.clr_fitting.proofs.PartFit.{part_left}
use Rattle.clr_fitting.proofs.laws.a_part_of_a_fit_leaves_older_items.Goals as goal

pub returns : goal.returns
returns c = part_left
