use Rattle.std.proofs.Common.{◌≡◌, ℕ, get_or, ap, ◌∙◌, arith, true}
use Rattle.clr_mem.specs.Words.{Memory, word_at}
use Rattle.clr_heap.specs.Memories.{contains, memory_index}
use Rattle.clr_heap.proofs.Storing.{contains_at_index, contains_bounds, get_memory}
use Rattle.clr_heap.proofs.heap.words.word_in_memory.Goals as goal

pub word-requires : goal.word-requires
word-requires c =
    let ms = c.args.memories.now.items in
    let m = c.index-memory.result.now in
    let at : m ≡ get_or ms (memory_index ms c.args.a) m =
    c.index-memory.ensures ∙ ap (λ (k : ℕ). get_or ms k m) c.requires.segment in
    let held : contains m c.args.a ≡ true =
    ap (λ (n : Memory). contains n c.args.a) at ∙ contains_at_index ms c.args.a m c.requires.word.inside in
    let b = contains_bounds m c.args.a held in
    let z = c.requires.word.aligned in
    let base = c.len.ensures.aligned in
    record { above = omega (arith, b); below = omega (arith, b, base, z); start = z; whole = omega arith }

pub returns : goal.returns
returns c =
    let ms = c.args.memories.now.items in
    let m = c.index-memory.result.now in
    let at : m ≡ get_or ms (memory_index ms c.args.a) m =
    c.index-memory.ensures ∙ ap (λ (k : ℕ). get_or ms k m) c.requires.segment in
    c.word.ensures.value ∙ ap (λ (n : Memory). word_at n c.args.a) at ∙ get_memory ms c.args.a m c.requires.word.inside
