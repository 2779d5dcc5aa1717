use Rattle.clr_model.proofs.BackgroundNames.{background_ends}
use Rattle.clr_model.proofs.laws.a_background_collection_ends.Goals as goal

pub returns : goal.returns
returns c = background_ends
