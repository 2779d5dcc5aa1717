use Rattle.clr_fitting.proofs.SeenSteps.{two_steps_seen}
use Rattle.clr_fitting.proofs.laws.names_do_not_matter_between.Goals as goal

pub returns : goal.returns
returns c = two_steps_seen
