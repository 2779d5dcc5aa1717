use Rattle.std.proofs.Common.{◌≡◌, ◌<◌, ◌≤◌, ◌+◌, length, take, drop, arith, length-take-le}
use Rattle.std.proofs.Common.{length-drop}
use Rattle.clr_mem.proofs.Padding.{length-seen, length-with_zeros, seen-cleared, seen-copied, seen-more, seen-written}
use Rattle.clr_mem.proofs.lazy.LazyBytes.carry.Goals as goal

pub returns-then-count-eq0-clause-items : goal.returns-then-count-eq0-clause-items
returns-then-count-eq0-clause-items c =
    let o = c.source.inside in
    let rest = c.count_below-count.ensures.rest in
    let behind : 0 < c.args.n → length o.stored.items ≤ c.args.start = λ l. omega arith in
    seen-cleared o.size o.stored.items _ c.source.view_is c.source.invariant.inside c.args.start c.args.n c.args.at
    behind c.requires.from_in c.args.self.now _ c.clear.ensures.items

pub overflow_add-at : goal.overflow_add-at
overflow_add-at c =
    let m = c.self.inside in
    let size = length-seen m.size m.stored.items _ c.self.view_is c.self.invariant.inside in
    omega arith

pub reach-requires-clause-inside : goal.reach-requires-clause-inside
reach-requires-clause-inside c =
    let m = c.self.inside in
    let size = length-seen m.size m.stored.items _ c.self.view_is c.self.invariant.inside in
    omega arith

pub clear-requires-2 : goal.clear-requires-2
clear-requires-2 c =
    let m = c.self.inside in
    let size = length-seen m.size m.stored.items _ c.self.view_is c.self.invariant.inside in
    let inside = c.reach.ensures.reserved.inside in
    let now = length-with_zeros m.size c.copy_bytes.new.bytes.items (omega arith) in
    omega arith

pub returns-clause-items : goal.returns-clause-items
returns-clause-items c =
    let m = c.self.inside in
    let grown = c.reach.ensures in
    let ys = c.reach.new.bytes.items in
    let xs = m.stored.items in
    let stored = grown.stored in
    let view = seen-more m.size xs _ c.self.view_is c.self.invariant.inside ys
    grown.items grown.more grown.reserved.inside in
    let o = c.source.inside in
    let os = o.stored.items in
    let size = length-seen m.size xs _ c.self.view_is c.self.invariant.inside in
    let k = c.count_below-count.result in
    let count = c.count_below-count.ensures in
    let rest = count.rest in
    let below = count.below in
    let start = c.args.start in
    let to_in = c.requires.to_in in
    let behind : k < c.args.n → length os ≤ start + k = λ l. omega arith in
    let part = take k (drop start os) in
    let long : length part ≡ k = length-take-le k (drop start os) (omega (arith, length-drop start os)) in
    let copied = seen-written m.size ys _ view grown.reserved.inside c.args.at k part long (omega arith)
    c.copy_bytes.new.bytes.items c.copy_bytes.ensures.items in
    seen-copied o.size os _ c.source.view_is c.source.invariant.inside start k c.args.n c.args.at (omega arith)
    count.most behind c.requires.from_in c.args.self.now _ _ to_in copied c.clear-2.ensures.items

pub returns-clause-len : goal.returns-clause-len
returns-clause-len c =
    let m = c.self.inside in
    let before = length-seen m.size m.stored.items _ c.self.view_is c.self.invariant.inside in
    let inside = c.reach.ensures.reserved.inside in
    let after = length-with_zeros m.size c.copy_bytes.new.bytes.items (omega arith) in
    omega arith
