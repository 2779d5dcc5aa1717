use Rattle.clr_fitting.proofs.TwoSteps.{goes_twice}
use Rattle.clr_fitting.proofs.laws.objects_go_twice.Goals as goal

pub returns : goal.returns
returns c = goes_twice
