use Rattle.clr_model.proofs.SlidLaws.{pinned_stay}
use Rattle.clr_model.proofs.laws.pinned_objects_stay.Goals as goal

pub returns : goal.returns
returns c = pinned_stay
