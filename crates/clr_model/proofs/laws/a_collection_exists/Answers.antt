use Rattle.clr_model.proofs.CollectionExists.{collection_exists}
use Rattle.clr_model.proofs.laws.a_collection_exists.Goals as goal

pub returns : goal.returns
returns c = collection_exists
