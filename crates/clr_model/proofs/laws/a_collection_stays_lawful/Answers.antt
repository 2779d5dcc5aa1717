use Rattle.clr_model.proofs.CollectedLawful.{collection_stays_lawful}
use Rattle.clr_model.proofs.laws.a_collection_stays_lawful.Goals as goal

pub returns : goal.returns
returns c = collection_stays_lawful
