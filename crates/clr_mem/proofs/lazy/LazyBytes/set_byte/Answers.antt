use Rattle.std.proofs.Common.{arith}
use Rattle.clr_mem.proofs.Padding.{seen-byte, seen-read}
use Rattle.clr_mem.proofs.lazy.LazyBytes.set_byte.Goals as goal

pub returns-then-at-len-clause-items : goal.returns-then-at-len-clause-items
returns-then-at-len-clause-items c =
    let m = c.self.inside in
    seen-byte m.size m.stored.items _ c.self.view_is c.self.invariant.inside c.args.at c.args.v (omega arith)
    c.store_byte.new.bytes.items c.store_byte.ensures.items

pub returns-then-at-len-clause-fits : goal.returns-then-at-len-clause-fits
returns-then-at-len-clause-fits c = λ j.
    let m = c.self.inside in
    rw (← seen-read m.size m.stored.items _ c.self.view_is c.self.invariant.inside j) (c.store_byte.ensures.fits j)
