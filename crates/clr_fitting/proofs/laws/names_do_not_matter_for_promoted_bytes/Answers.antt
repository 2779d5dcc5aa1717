use Rattle.clr_fitting.proofs.SeenFitted.{promoted_seen}
use Rattle.clr_fitting.proofs.laws.names_do_not_matter_for_promoted_bytes.Goals as goal

pub returns : goal.returns
returns c = promoted_seen
