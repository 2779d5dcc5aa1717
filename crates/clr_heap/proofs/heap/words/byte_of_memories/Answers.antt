use Rattle.std.proofs.Common.{ℕ, ◌%◌, ap, ◌∙◌}
use Rattle.clr_mem.specs.Words.{byte_of}
use Rattle.clr_heap.proofs.Finding.{word_of_byte}
use Rattle.clr_heap.proofs.heap.words.byte_of_memories.Goals as goal

pub returns : goal.returns
returns c =
    let m = c.index-memory.result.now in
    let held = c.find-k.ensures.word m in
    let low = rw (← c.index-memory.ensures) at held.above in
    let z = rw (← c.index-memory.ensures) at (c.find-k.ensures.aligned m) in
    let word = word_of_byte c.args.memories.now.items c.find-k.result c.args.a m c.requires.word.inside
    c.find-k.ensures.index c.index-memory.ensures z low in
    c.byte.ensures.value ∙ ap (λ (w : ℕ). byte_of w (c.args.a % 8)) word
