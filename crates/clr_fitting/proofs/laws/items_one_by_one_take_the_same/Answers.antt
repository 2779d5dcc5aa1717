use Rattle.clr_fitting.proofs.ItemByItem.{by_item}
use Rattle.clr_fitting.proofs.laws.items_one_by_one_take_the_same.Goals as goal

pub returns : goal.returns
returns c = by_item
