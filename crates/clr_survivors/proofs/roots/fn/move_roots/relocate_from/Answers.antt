use Rattle.clr_survivors.proofs.NamesGone.{gone-by}
use Rattle.clr_survivors.proofs.roots.fn.move_roots.relocate_from.Goals as goal

pub returns : goal.returns
returns c = gone-by _ _ _ _ _ c.destination.ensures.goes
