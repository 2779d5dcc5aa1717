use Rattle.clr_model.proofs.LayoutLaws.{compaction_lawful}
use Rattle.clr_model.proofs.laws.a_compaction_leaves_a_lawful_layout.Goals as goal

pub returns : goal.returns
returns c m g kept moves new laid least is = compaction_lawful m laid g least kept moves new is
