use Rattle.clr_settled.proofs.Asked.{twice}
use Rattle.clr_settled.proofs.what_is_kept_stays.Goals as goal

pub returns : goal.returns
returns c = twice
