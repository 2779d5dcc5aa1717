use Rattle.clr_model.proofs.CollectionNames.{names_dont_matter}
use Rattle.clr_model.proofs.laws.names_do_not_matter.Goals as goal

pub returns : goal.returns
returns c = λ m g how answer after h idle usual collects. names_dont_matter m g how answer after h idle usual collects
