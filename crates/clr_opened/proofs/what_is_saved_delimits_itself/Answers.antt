use Rattle.clr_opened.proofs.WrittenFronts.{saved-front}
use Rattle.clr_opened.proofs.what_is_saved_delimits_itself.Goals as goal

pub returns : goal.returns
returns c = saved-front
