use Rattle.std.proofs.Common.{◌≡◌, ℕ, get_or, set, ap, ap₂, ◌∙◌}
use Rattle.clr_mem.specs.Words.{Memory}
use Rattle.clr_heap.specs.Memories.{memory_index, shapes, store_in, with_word}
use Rattle.clr_heap.proofs.Storing.{set_memory, shapes-store_in}
use Rattle.clr_heap.proofs.heap.words.set_word_of_memories.Goals as goal

pub returns-clause-items : goal.returns-clause-items
returns-clause-items c =
    let ms = c.args.memories.now.items in
    let m = c.index_mut-memory.result.now in
    let at : m ≡ get_or ms (memory_index ms c.args.a) m =
    c.index_mut-memory.ensures.value ∙ ap (λ (k : ℕ). get_or ms k m) c.find-k.ensures.index in
    let stores = set_memory ms c.args.a c.args.v m c.requires.word.inside in
    ap₂ (λ (k : ℕ) (n : Memory). set ms k n) c.find-k.ensures.index
    (c.set_word.ensures.value ∙ ap (λ (n : Memory). with_word n c.args.a c.args.v) at) ∙ stores

pub returns-clause-shapes : goal.returns-clause-shapes
returns-clause-shapes c =
    let ms = c.args.memories.now.items in
    let m = c.index_mut-memory.result.now in
    let at : m ≡ get_or ms (memory_index ms c.args.a) m =
    c.index_mut-memory.ensures.value ∙ ap (λ (k : ℕ). get_or ms k m) c.find-k.ensures.index in
    let stores = set_memory ms c.args.a c.args.v m c.requires.word.inside in
    let whole : set ms c.find-k.result c.set_word.new.self ≡ store_in ms c.args.a c.args.v =
    ap₂ (λ (k : ℕ) (n : Memory). set ms k n) c.find-k.ensures.index
    (c.set_word.ensures.value ∙ ap (λ (n : Memory). with_word n c.args.a c.args.v) at) ∙ stores in
    ap shapes whole ∙ shapes-store_in ms c.args.a c.args.v
