use Rattle.clr_background.proofs.LogHolds.{log_holds}
use Rattle.clr_background.proofs.the_log_holds.Goals as goal

pub returns : goal.returns
returns c = log_holds
