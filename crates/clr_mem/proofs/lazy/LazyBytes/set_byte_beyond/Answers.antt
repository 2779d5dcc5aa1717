use Rattle.std.proofs.Common.{arith}
use Rattle.clr_mem.proofs.Padding.{length-seen, seen-byte, seen-more, seen-read}
use Rattle.clr_mem.proofs.lazy.LazyBytes.set_byte_beyond.Goals as goal

pub reach-requires-clause-inside : goal.reach-requires-clause-inside
reach-requires-clause-inside c =
    let m = c.self.inside in
    let size = length-seen m.size m.stored.items _ c.self.view_is c.self.invariant.inside in
    omega arith

pub returns-clause-items : goal.returns-clause-items
returns-clause-items c =
    let m = c.self.inside in
    let grown = c.reach.ensures in
    let ys = c.reach.new.bytes.items in
    let xs = m.stored.items in
    let view = seen-more m.size xs _ c.self.view_is c.self.invariant.inside ys
    grown.items grown.more grown.reserved.inside in
    let stored = grown.stored in
    seen-byte m.size ys _ view grown.reserved.inside c.args.at c.args.v (omega arith)
    c.store_byte.new.bytes.items c.store_byte.ensures.items

pub returns-clause-fits : goal.returns-clause-fits
returns-clause-fits c = λ j.
    let m = c.self.inside in
    let grown = c.reach.ensures in
    let ys = c.reach.new.bytes.items in
    let xs = m.stored.items in
    let view = seen-more m.size xs _ c.self.view_is c.self.invariant.inside ys
    grown.items grown.more grown.reserved.inside in
    rw (← seen-read m.size ys _ view grown.reserved.inside j) (c.store_byte.ensures.fits j)
