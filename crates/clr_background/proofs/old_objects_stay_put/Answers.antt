use Rattle.clr_background.proofs.LineStores.{old_stay_put}
use Rattle.clr_background.proofs.old_objects_stay_put.Goals as goal

pub returns : goal.returns
returns c = old_stay_put
