use Rattle.std.proofs.Common.{◌≡◌, ℕ, get_or, ap, ◌∙◌}
use Rattle.clr_mem.specs.Words.{Memory, word_at}
use Rattle.clr_heap.specs.Memories.{memory_index}
use Rattle.clr_heap.proofs.Storing.{get_memory}
use Rattle.clr_heap.proofs.heap.words.word_of_memories.Goals as goal

pub returns-clause-value : goal.returns-clause-value
returns-clause-value c =
    let ms = c.args.memories.now.items in
    let m = c.index-memory.result.now in
    let at : m ≡ get_or ms (memory_index ms c.args.a) m =
    c.index-memory.ensures ∙ ap (λ (k : ℕ). get_or ms k m) c.find-k.ensures.index in
    c.word.ensures.value ∙ ap (λ (n : Memory). word_at n c.args.a) at ∙ get_memory ms c.args.a m c.requires.word.inside
