use Rattle.std.proofs.Common.{◌≡◌, ◌+◌, ◌-◌, ◌*◌, ap, ◌∙◌, subst, arith}
use Rattle.clr_heap.specs.Memories.{HasWord, memory_index}
use Rattle.clr_reloc.proofs.words.is_sparse.Goals as goal

pub empty_words-requires-clause-words : goal.empty_words-requires-clause-words
empty_words-requires-clause-words c j l =
    let long = c.requires.long in
    let i = c.args.run.count - 32 + j in
    let place = c.args.object.found.place in
    let e : place + (c.args.run.offset + 8 * i) ≡ place + (c.args.run.offset + 8 * (c.args.run.count - 32)) + 8 * j
    = omega arith in
    subst (HasWord c.args.heap.now.memories) e (c.requires.words i (omega (arith, l, long)))

pub empty_words-requires-clause-segment : goal.empty_words-requires-clause-segment
empty_words-requires-clause-segment c j l =
    let long = c.requires.long in
    let i = c.args.run.count - 32 + j in
    let place = c.args.object.found.place in
    let e : place + (c.args.run.offset + 8 * i) ≡ place + (c.args.run.offset + 8 * (c.args.run.count - 32)) + 8 * j
    = omega arith in
    c.requires.segment i (omega (arith, l, long)) ∙ ap (memory_index c.args.heap.now.memories) e
