use Rattle.std.proofs.Common.{[], sym}
use Rattle.clr_mem.specs.Words.{Memory}
use Rattle.clr_heap.proofs.Moving.{index_unique}
use Rattle.clr_heap.proofs.heap.words.look_up.Goals as goal

none : Memory
none = record { base = 0; words = [] }

pub index-memory-requires : goal.index-memory-requires
index-memory-requires c = c.is_in.ensures.there c.if-not-is_in.false

pub returns-clause-index : goal.returns-clause-index
returns-clause-index c =
    let there = c.is_in.ensures.holds c.if-not-is_in.false none in
    sym (index_unique c.args.memories.now.items c.args.guess c.args.a none c.requires.apart there.0 there.1)
