use Rattle.clr_fitting.proofs.BothCollect.{both_collect}
use Rattle.clr_fitting.proofs.laws.both_steps_collect.Goals as goal

pub returns : goal.returns
returns c = both_collect
