use Rattle.clr_laws.proofs.SecondCompactions.{third_compaction}
use Rattle.clr_laws.proofs.a_third_full_compaction_changes_nothing.Goals as goal

pub returns : goal.returns
returns c = third_compaction
