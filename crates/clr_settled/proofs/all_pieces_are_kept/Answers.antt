use Rattle.clr_settled.proofs.SettledLawful.{pieces-kept}
use Rattle.clr_settled.proofs.all_pieces_are_kept.Goals as goal

pub returns : goal.returns
returns c = pieces-kept
