use Rattle.clr_save.proofs.SavedImages.{image-lawful}
use Rattle.clr_save.proofs.laws.what_is_saved_is_an_image.Goals as goal

pub returns : goal.returns
returns c = image-lawful
