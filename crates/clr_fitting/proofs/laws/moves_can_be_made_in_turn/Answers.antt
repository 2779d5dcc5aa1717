use Rattle.clr_fitting.proofs.MovesInTurn.{in_turn}
use Rattle.clr_fitting.proofs.laws.moves_can_be_made_in_turn.Goals as goal

pub returns : goal.returns
returns c = in_turn
