use Rattle.clr_model.proofs.SlidLaws.{order}
use Rattle.clr_model.proofs.laws.objects_keep_their_order.Goals as goal

pub returns : goal.returns
returns c = order
