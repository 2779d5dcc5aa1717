use Rattle.clr_settled.proofs.Asked.{pictured}
use Rattle.clr_settled.proofs.names_do_not_matter_for_what_is_kept.Goals as goal

pub returns : goal.returns
returns c = pictured
