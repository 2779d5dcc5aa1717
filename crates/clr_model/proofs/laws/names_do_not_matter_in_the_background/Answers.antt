use Rattle.clr_model.proofs.BackgroundNames.{background_names}
use Rattle.clr_model.proofs.laws.names_do_not_matter_in_the_background.Goals as goal

pub returns : goal.returns
returns c = λ m marking answer after h is ends. background_names m h marking is answer after ends
