use Rattle.clr_model.proofs.SlidLaws.{none_rises}
use Rattle.clr_model.proofs.laws.no_object_rises.Goals as goal

pub returns : goal.returns
returns c = none_rises
