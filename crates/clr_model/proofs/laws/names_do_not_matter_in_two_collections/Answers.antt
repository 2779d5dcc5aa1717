use Rattle.clr_model.proofs.CollectionNames.{two_collections_names}
use Rattle.clr_model.proofs.laws.names_do_not_matter_in_two_collections.Goals as goal

pub returns : goal.returns
returns c = two_collections_names
