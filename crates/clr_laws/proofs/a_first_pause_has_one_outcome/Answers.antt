use Rattle.clr_laws.proofs.OneFirstPause.{one_first_pause}
use Rattle.clr_laws.proofs.a_first_pause_has_one_outcome.Goals as goal

pub returns : goal.returns
returns c = one_first_pause
