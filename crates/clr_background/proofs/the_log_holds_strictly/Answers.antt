use Rattle.clr_background.proofs.LogHolds.{strict_log_holds}
use Rattle.clr_background.proofs.the_log_holds_strictly.Goals as goal

pub returns : goal.returns
returns c = strict_log_holds
