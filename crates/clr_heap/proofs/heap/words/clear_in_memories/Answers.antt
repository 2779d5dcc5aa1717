use Rattle.std.proofs.Common.{◌<◌, length}
use Rattle.clr_heap.proofs.Moving.{holds_in_one, no_memory}
use Rattle.clr_heap.proofs.Zeroing.{cleared_all}
use Rattle.clr_heap.proofs.heap.words.clear_in_memories.Goals as goal

pub returns : goal.returns
returns c =
    let ms = c.args.memories.now.items in
    let k = c.find-k.result in
    let d = no_memory in
    let l : k < length ms = rw c.find-k.ensures.index c.requires.held.word.inside in
    let all = cleared_all ms k c.args.a c.args.len d c.requires.apart l (c.find-k.ensures.aligned d)
    (holds_in_one ms k c.args.a c.args.len d c.find-k.ensures.index c.requires.held (c.find-k.ensures.word d))
    c.clear_in.new.memories.items (c.clear_in.ensures d) in
    record { words = all.words; shapes = all.shapes; len = all.len }
