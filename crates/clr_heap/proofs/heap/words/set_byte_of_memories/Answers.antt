use Rattle.std.proofs.Common.{◌≡◌, ℕ, ◌-◌, ◌/◌, ◌%◌, get_or, set, ap, ap₂, ◌∙◌, arith}
use Rattle.clr_mem.specs.Words.{Memory, with_byte}
use Rattle.clr_heap.specs.Memories.{memory_index, shapes, with_word, word_address, word_in}
use Rattle.clr_heap.proofs.Finding.{word_of_byte}
use Rattle.clr_heap.proofs.Storing.{set_memory, shapes-store_in}
use Rattle.clr_heap.proofs.heap.words.set_byte_of_memories.Goals as goal

pub returns-clause-items : goal.returns-clause-items
returns-clause-items c =
    let ms = c.args.memories.now.items in
    let a = c.args.a in
    let b = word_address a in
    let m = c.index_mut-memory.result.now in
    let held = c.find-k.ensures.word m in
    let read = c.index_mut-memory.ensures.value in
    let low = rw (← read) at held.above in
    let z = rw (← read) at (c.find-k.ensures.aligned m) in
    let word = word_of_byte ms c.find-k.result a m c.requires.word.inside c.find-k.ensures.index read z low in
    let v = with_byte (word_in ms b) (a % 8) c.args.v in
    let at : (a - m.base) / 8 ≡ (b - m.base) / 8 = omega arith in
    let here : m ≡ get_or ms (memory_index ms b) m = read ∙ ap (λ (k : ℕ). get_or ms k m) c.find-k.ensures.index in
    let one =
    ap₂ (λ (i w : ℕ). record { base = m.base; words = set m.words i (with_byte w (a % 8) c.args.v) }) at word in
    let new : c.set_byte.new.self ≡ with_word (get_or ms (memory_index ms b) m) b v =
    c.set_byte.ensures.value ∙ one ∙ ap (λ (n : Memory). with_word n b v) here in
    let placed : set ms c.find-k.result c.set_byte.new.self
    ≡ set ms (memory_index ms b) (with_word (get_or ms (memory_index ms b) m) b v) =
    ap₂ (λ (k : ℕ) (n : Memory). set ms k n) c.find-k.ensures.index new in
    placed ∙ set_memory ms b v m c.requires.word.inside

pub returns-clause-shapes : goal.returns-clause-shapes
returns-clause-shapes c =
    let ms = c.args.memories.now.items in
    let b = word_address c.args.a in
    ap shapes (returns-clause-items c) ∙ shapes-store_in ms b (with_byte (word_in ms b) (c.args.a % 8) c.args.v)
