use Rattle.clr_fitting.proofs.Copies.{laid_seen}
use Rattle.clr_fitting.proofs.laws.names_do_not_matter_for_the_memory.Goals as goal

pub returns : goal.returns
returns c = laid_seen
