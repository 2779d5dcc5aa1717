use Rattle.clr_model.proofs.BackgroundLawful.{background_stays_lawful}
use Rattle.clr_model.proofs.laws.a_background_collection_stays_lawful.Goals as goal

pub returns : goal.returns
returns c = λ m marking answer new h idle ends. background_stays_lawful m h idle marking answer new ends
