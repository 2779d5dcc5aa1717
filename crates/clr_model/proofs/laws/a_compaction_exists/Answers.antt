use Rattle.clr_model.proofs.CompactionExists.{compaction_exists}
use Rattle.clr_model.proofs.laws.a_compaction_exists.Goals as goal

pub returns : goal.returns
returns c m g kept laid least = compaction_exists m laid g least kept
