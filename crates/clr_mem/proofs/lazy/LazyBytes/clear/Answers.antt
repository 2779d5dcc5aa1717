use Rattle.std.proofs.Common.{◌<◌, ◌≤◌, ◌+◌, length, arith}
use Rattle.clr_mem.proofs.Padding.{length-seen, length-with_zeros, clear-stored, clear-unstored}
use Rattle.clr_mem.proofs.lazy.LazyBytes.clear.Goals as goal

pub returns-then-count-eq0-clause-items : goal.returns-then-count-eq0-clause-items
returns-then-count-eq0-clause-items c =
    let m = c.self.inside in
    let rest = c.count_below-count.ensures.rest in
    let behind : 0 < c.args.n → length m.stored.items ≤ c.args.at = λ l. omega arith in
    clear-unstored m.size m.stored.items _ c.self.view_is c.self.invariant.inside c.args.at c.args.n behind c.requires

pub returns-clause-items : goal.returns-clause-items
returns-clause-items c =
    let m = c.self.inside in
    let k = c.count_below-count.result in
    let count = c.count_below-count.ensures in
    let rest = count.rest in
    let behind : k < c.args.n → length m.stored.items ≤ c.args.at + k = λ l. omega arith in
    clear-stored m.size m.stored.items _ c.self.view_is c.self.invariant.inside c.args.at k c.args.n
    (omega arith) count.most behind c.requires c.clear_bytes.new.bytes.items c.clear_bytes.ensures.items

pub returns-clause-len : goal.returns-clause-len
returns-clause-len c =
    let m = c.self.inside in
    let before = length-seen m.size m.stored.items _ c.self.view_is c.self.invariant.inside in
    let after = length-with_zeros m.size c.clear_bytes.new.bytes.items (omega arith) in
    omega arith
