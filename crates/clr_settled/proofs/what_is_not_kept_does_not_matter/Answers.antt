use Rattle.clr_settled.proofs.Asked.{forgotten}
use Rattle.clr_settled.proofs.what_is_not_kept_does_not_matter.Goals as goal

pub returns : goal.returns
returns c = forgotten
