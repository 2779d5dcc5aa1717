use Rattle.clr_opened.proofs.OpenedParts.{opened-parts}
use Rattle.clr_opened.proofs.a_machine_that_was_saved_is_opened.Goals as goal

pub returns : goal.returns
returns c = opened-parts
