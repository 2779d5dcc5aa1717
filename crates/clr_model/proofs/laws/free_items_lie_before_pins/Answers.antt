use Rattle.clr_model.proofs.SlidLaws.{free_before_pins}
use Rattle.clr_model.proofs.laws.free_items_lie_before_pins.Goals as goal

pub returns : goal.returns
returns c = free_before_pins
