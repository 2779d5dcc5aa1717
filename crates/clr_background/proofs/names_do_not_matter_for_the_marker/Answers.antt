use Rattle.clr_background.proofs.MarkerNames.{marker_names_law}
use Rattle.clr_background.proofs.names_do_not_matter_for_the_marker.Goals as goal

pub returns : goal.returns
returns c = marker_names_law
