use Rattle.clr_background.proofs.MarkerNames.{first_pause_names_law}
use Rattle.clr_background.proofs.names_do_not_matter_at_the_first_pause.Goals as goal

pub returns : goal.returns
returns c = first_pause_names_law
