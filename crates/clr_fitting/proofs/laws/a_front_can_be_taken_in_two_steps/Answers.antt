use Rattle.clr_fitting.proofs.FitLists.{taken_twice}
use Rattle.clr_fitting.proofs.laws.a_front_can_be_taken_in_two_steps.Goals as goal

pub returns : goal.returns
returns c = taken_twice
