use Rattle.std.proofs.Common.{arith}
use Rattle.std.proofs.lemmas.Bool.{ltb-true}
use Rattle.clr_mem.proofs.Padding.{length-seen}
use Rattle.clr_mem.proofs.lazy.LazyBytes.has.Goals as goal

pub returns : goal.returns
returns c = λ yes.
    let m = c.self.inside in
    let size = length-seen m.size m.stored.items _ c.self.view_is c.self.invariant.inside in
    let inside = c.self.invariant.inside in
    let below = ltb-true c.args.at c.len.result yes in
    omega arith
