use Rattle.std.proofs.Common.{◌≡◌, ◌+◌, ◌-◌, ◌*◌, ap, ◌∙◌, subst, arith}
use Rattle.clr_heap.specs.Memories.{HasWord, memory_index}
use Rattle.clr_reloc.specs.Resting.{NamesNothing}
use Rattle.clr_reloc.proofs.words.next_number.Goals as goal

pub empty_words-requires-clause-words : goal.empty_words-requires-clause-words
empty_words-requires-clause-words c j l =
    let i = c.args.at + 1 + j in
    let place = c.args.object.now.found.place in
    let e : place + (c.args.run.offset + 8 * i) ≡ place + (c.args.run.offset + 8 * (c.args.at + 1)) + 8 * j
    = omega arith in
    subst (HasWord c.args.heap.now.memories) e (c.requires.words i (omega (arith, l)))

pub empty_words-requires-clause-segment : goal.empty_words-requires-clause-segment
empty_words-requires-clause-segment c j l =
    let i = c.args.at + 1 + j in
    let place = c.args.object.now.found.place in
    let e : place + (c.args.run.offset + 8 * i) ≡ place + (c.args.run.offset + 8 * (c.args.at + 1)) + 8 * j
    = omega arith in
    c.requires.segment i (omega (arith, l)) ∙ ap (memory_index c.args.heap.now.memories) e

pub returns-clause-empty : goal.returns-clause-empty
returns-clause-empty c j low high =
    let next = c.args.at + 1 in
    let place = c.args.object.now.found.place in
    let e : place + (c.args.run.offset + 8 * next) + 8 * (j - next) ≡ place + (c.args.run.offset + 8 * j)
    = omega (arith, low) in
    subst (NamesNothing c.args.heap.now c.args.pins.now.entries) e
    (c.empty_words.ensures.empty (j - next) (omega (arith, low, high)))
