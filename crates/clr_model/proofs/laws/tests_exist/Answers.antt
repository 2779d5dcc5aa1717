use Rattle.clr_model.proofs.CollectionExists.{tests_exist}
use Rattle.clr_model.proofs.laws.tests_exist.Goals as goal

pub returns : goal.returns
returns c = tests_exist
