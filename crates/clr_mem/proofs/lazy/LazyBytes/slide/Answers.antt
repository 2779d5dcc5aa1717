use Rattle.std.proofs.Common.{◌≡◌, ◌<◌, ◌≤◌, ◌+◌, length, take, drop, arith, length-take-le}
use Rattle.std.proofs.Common.{length-drop}
use Rattle.clr_mem.proofs.Padding.{length-seen, length-with_zeros, seen-cleared, seen-copied, seen-written}
use Rattle.clr_mem.proofs.lazy.LazyBytes.slide.Goals as goal

pub returns-then-count-eq0-clause-items : goal.returns-then-count-eq0-clause-items
returns-then-count-eq0-clause-items c =
    let m = c.self.inside in
    let rest = c.count_below-count.ensures.rest in
    let behind : 0 < c.args.n → length m.stored.items ≤ c.args.start = λ l. omega arith in
    seen-cleared m.size m.stored.items _ c.self.view_is c.self.invariant.inside c.args.start c.args.n c.args.at
    behind c.requires.from_in c.args.self.now _ c.clear.ensures.items

pub clear-requires-2 : goal.clear-requires-2
clear-requires-2 c =
    let m = c.self.inside in
    let size = length-seen m.size m.stored.items _ c.self.view_is c.self.invariant.inside in
    let now = length-with_zeros m.size c.move_bytes.new.bytes.items (omega arith) in
    omega arith

pub returns-clause-items : goal.returns-clause-items
returns-clause-items c =
    let m = c.self.inside in
    let xs = m.stored.items in
    let size = length-seen m.size xs _ c.self.view_is c.self.invariant.inside in
    let k = c.count_below-count.result in
    let count = c.count_below-count.ensures in
    let rest = count.rest in
    let below = count.below in
    let inside = c.self.invariant.inside in
    let start = c.args.start in
    let from_in = c.requires.from_in in
    let down = c.requires.down in
    let behind : k < c.args.n → length xs ≤ start + k = λ l. omega arith in
    let part = take k (drop start xs) in
    let long : length part ≡ k = length-take-le k (drop start xs) (omega (arith, length-drop start xs)) in
    let moved = seen-written m.size xs _ c.self.view_is inside c.args.at k part long (omega arith)
    c.move_bytes.new.bytes.items c.move_bytes.ensures.items in
    seen-copied m.size xs _ c.self.view_is inside start k c.args.n c.args.at (omega arith) count.most behind
    from_in c.args.self.now _ _ (omega arith) moved c.clear-2.ensures.items

pub returns-clause-len : goal.returns-clause-len
returns-clause-len c =
    let m = c.self.inside in
    let before = length-seen m.size m.stored.items _ c.self.view_is c.self.invariant.inside in
    let after = length-with_zeros m.size c.move_bytes.new.bytes.items (omega arith) in
    omega arith
