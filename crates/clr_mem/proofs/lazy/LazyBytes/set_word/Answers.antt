use Rattle.std.proofs.Common.{arith}
use Rattle.std.specs.Int.{bytes_low_first}
use Rattle.clr_mem.proofs.Spelling.{length-bytes}
use Rattle.clr_mem.proofs.Padding.{length-with_zeros, length-seen, seen-written}
use Rattle.clr_mem.proofs.lazy.LazyBytes.set_word.Goals as goal

pub returns-then-at-len-clause-items : goal.returns-then-at-len-clause-items
returns-then-at-len-clause-items c =
    let m = c.self.inside in
    let words = c.self.invariant.words in
    seen-written m.size m.stored.items _ c.self.view_is c.self.invariant.inside c.args.at 8
    (bytes_low_first 0 8 c.args.v) (length-bytes c.args.v)
    (omega arith) c.store_word.new.bytes.items c.store_word.ensures.items

pub returns-then-at-len-clause-len : goal.returns-then-at-len-clause-len
returns-then-at-len-clause-len c =
    let m = c.self.inside in
    let before = length-seen m.size m.stored.items _ c.self.view_is c.self.invariant.inside in
    let after = length-with_zeros m.size c.store_word.new.bytes.items (omega arith) in
    omega arith
