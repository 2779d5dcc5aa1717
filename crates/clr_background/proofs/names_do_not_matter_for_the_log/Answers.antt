use Rattle.clr_background.proofs.LogNames.{log_names}
use Rattle.clr_background.proofs.names_do_not_matter_for_the_log.Goals as goal

pub returns : goal.returns
returns c = log_names
