use Rattle.std.proofs.Common.{arith}
use Rattle.std.specs.Int.{bytes_low_first}
use Rattle.clr_mem.proofs.Spelling.{length-bytes}
use Rattle.clr_mem.proofs.Padding.{length-with_zeros, length-seen, seen-more, seen-written}
use Rattle.clr_mem.proofs.lazy.LazyBytes.set_word_beyond.Goals as goal

pub reach-requires-clause-inside : goal.reach-requires-clause-inside
reach-requires-clause-inside c =
    let m = c.self.inside in
    let size = length-seen m.size m.stored.items _ c.self.view_is c.self.invariant.inside in
    omega arith

pub returns-clause-items : goal.returns-clause-items
returns-clause-items c =
    let m = c.self.inside in
    let grown = c.reach.ensures in
    let ys = c.reach.new.bytes.items in
    let xs = m.stored.items in
    let words = grown.reserved.words in
    let stored = grown.stored in
    let view = seen-more m.size xs _ c.self.view_is c.self.invariant.inside ys
    grown.items grown.more grown.reserved.inside in
    seen-written m.size ys _ view grown.reserved.inside c.args.at 8 (bytes_low_first 0 8 c.args.v)
    (length-bytes c.args.v)
    (omega arith) c.store_word.new.bytes.items c.store_word.ensures.items

pub returns-clause-len : goal.returns-clause-len
returns-clause-len c =
    let m = c.self.inside in
    let before = length-seen m.size m.stored.items _ c.self.view_is c.self.invariant.inside in
    let inside = c.reach.ensures.reserved.inside in
    let after = length-with_zeros m.size c.store_word.new.bytes.items (omega arith) in
    omega arith
