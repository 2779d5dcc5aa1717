use Rattle.clr_model.proofs.SlidLaws.{collection_layout}
use Rattle.clr_model.proofs.laws.a_collection_leaves_a_lawful_layout.Goals as goal

pub returns : goal.returns
returns c = collection_layout
