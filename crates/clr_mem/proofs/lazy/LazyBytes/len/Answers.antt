use Rattle.std.proofs.Common.{sym}
use Rattle.clr_mem.proofs.Padding.{length-seen}
use Rattle.clr_mem.proofs.lazy.LazyBytes.len.Goals as goal

pub returns : goal.returns
returns c = sym (length-seen _ c.self.inside.stored.items _ c.self.view_is c.self.invariant.inside)
