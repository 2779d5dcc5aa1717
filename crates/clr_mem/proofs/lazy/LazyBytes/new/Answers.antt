use Rattle.clr_mem.proofs.Padding.{none-stored}
use Rattle.clr_mem.proofs.lazy.LazyBytes.new.Goals as goal

pub returns : goal.returns
returns c = none-stored c.args.size c.in_ok-stored.stored.items c.in_ok-stored.ensures.items
