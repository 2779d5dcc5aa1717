use Rattle.clr_fitting.proofs.PromotedTwice.{promoted_twice}
use Rattle.clr_fitting.proofs.laws.promoted_bytes_add_up.Goals as goal

pub returns : goal.returns
returns c = promoted_twice
