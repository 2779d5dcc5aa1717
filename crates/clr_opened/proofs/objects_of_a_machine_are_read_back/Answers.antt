use Rattle.clr_opened.proofs.SavedObjects.{saved-objects}
use Rattle.clr_opened.proofs.objects_of_a_machine_are_read_back.Goals as goal

pub returns : goal.returns
returns c = saved-objects
