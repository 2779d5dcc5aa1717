use Rattle.clr_model.proofs.SlidLaws.{promotion}
use Rattle.clr_model.proofs.laws.objects_are_promoted.Goals as goal

pub returns : goal.returns
returns c = promotion
