use Rattle.clr_background.proofs.OlderObjects.{older_stay}
use Rattle.clr_background.proofs.older_objects_stay.Goals as goal

pub returns : goal.returns
returns c = older_stay
