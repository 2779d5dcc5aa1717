use Rattle.clr_fitting.proofs.MovesInTurn.{two_parts}
use Rattle.clr_fitting.proofs.laws.a_plug_can_go_in_two_parts.Goals as goal

pub returns : goal.returns
returns c = two_parts
