use Rattle.clr_opened.proofs.SettledImages.{settled-image}
use Rattle.clr_opened.proofs.saving_keeps_what_is_kept.Goals as goal

pub returns : goal.returns
returns c = settled-image
