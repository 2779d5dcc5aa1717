use Rattle.std.proofs.Common.{◌≡◌, ◌%◌, ◌<◌, length, get_or, ◌∙◌, arith}
use Rattle.clr_mem.specs.Words.{Holds}
use Rattle.clr_heap.specs.Memories.{memory_index}
use Rattle.clr_heap.proofs.Moving.{holds_in_one, index_order, moved_all, no_memory}
use Rattle.clr_heap.proofs.heap.words.move_in_memories.Goals as goal

pub carry_between-requires-clause-order : goal.carry_between-requires-clause-order
carry_between-requires-clause-order c =
    let ms = c.args.memories.now.items in
    let up = index_order ms c.args.to c.args.from no_memory c.requires.apart c.requires.to_in.word.inside
    c.requires.from_in.word.inside c.requires.down in
    let i = c.find-low.ensures.index in
    let j = c.find-high.ensures.index in
    let ne = c.if-low-high.false in
    omega arith

pub returns-then-low-high : goal.returns-then-low-high
returns-then-low-high c =
    let ms = c.args.memories.now.items in
    let d = no_memory in
    let low = c.find-low.result in
    let high = c.find-low.result in
    let lo : low < length ms = rw c.find-low.ensures.index c.requires.to_in.word.inside in
    let same : high ≡ memory_index ms c.args.from = c.if-low-high.true ∙ c.find-high.ensures.index in
    let hi : high < length ms = rw same c.requires.from_in.word.inside in
    let upper : Holds (get_or ms high d) c.args.from 8 = rw c.if-low-high.true (c.find-high.ensures.word d) in
    let upper8 : (get_or ms high d).base % 8 ≡ 0 = rw c.if-low-high.true (c.find-high.ensures.aligned d) in
    let all = moved_all ms c.slide_in.new.memories.items c.args.from c.args.to c.args.len low high d c.requires.apart lo
    hi (c.find-low.ensures.aligned d) upper8
    (holds_in_one ms low c.args.to c.args.len d c.find-low.ensures.index c.requires.to_in (c.find-low.ensures.word d))
    (holds_in_one ms high c.args.from c.args.len d same c.requires.from_in upper) (c.slide_in.ensures d) in
    record { words = all.words; shapes = all.shapes; len = all.len }

pub returns-else-low-high : goal.returns-else-low-high
returns-else-low-high c =
    let ms = c.args.memories.now.items in
    let d = no_memory in
    let low = c.find-low.result in
    let high = c.find-high.result in
    let lo : low < length ms = rw c.find-low.ensures.index c.requires.to_in.word.inside in
    let same : high ≡ memory_index ms c.args.from = c.find-high.ensures.index in
    let hi : high < length ms = rw same c.requires.from_in.word.inside in
    let upper : Holds (get_or ms high d) c.args.from 8 = c.find-high.ensures.word d in
    let upper8 : (get_or ms high d).base % 8 ≡ 0 = c.find-high.ensures.aligned d in
    let all = moved_all ms c.carry_between.new.memories.items c.args.from c.args.to c.args.len low high d
    c.requires.apart lo hi (c.find-low.ensures.aligned d) upper8
    (holds_in_one ms low c.args.to c.args.len d c.find-low.ensures.index c.requires.to_in (c.find-low.ensures.word d))
    (holds_in_one ms high c.args.from c.args.len d same c.requires.from_in upper) (c.carry_between.ensures d) in
    record { words = all.words; shapes = all.shapes; len = all.len }
