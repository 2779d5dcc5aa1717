use Rattle.std.proofs.Common.{◌≡◌, ℕ, ◌+◌, ◌-◌, ap, sym, ◌∙◌}
use Rattle.clr_heap.specs.Memories.{memory_index}
use Rattle.clr_heap.specs.View.{HeapView, stored}
use Rattle.clr_heap.proofs.Storing.{memory_index-store_in}
use Rattle.clr_view.proofs.births.write_head.Goals as goal

-- a write moves no word into another memory
kept : (old new : HeapView) (a v b : ℕ) → new ≡ stored old a v
    → memory_index old.memories b ≡ memory_index new.memories b
kept old new a v b is =
    sym (ap (λ (h : HeapView). memory_index h.memories b) is ∙ memory_index-store_in old.memories a v b)

pub set_word_at-requires-2-clause-segment : goal.set_word_at-requires-2-clause-segment
set_word_at-requires-2-clause-segment c =
    c.segment_of-k.ensures ∙ c.requires.mt_in
    ∙ kept c.args.heap.now c.set_word_at.new.self (c.args.a - 8) 0 c.args.a c.set_word_at.ensures

pub set_word_at-requires-then-has_length-clause-segment : goal.set_word_at-requires-then-has_length-clause-segment
set_word_at-requires-then-has_length-clause-segment c =
    c.segment_of-k.ensures ∙ c.requires.len_in
    ∙ kept c.args.heap.now c.set_word_at.new.self (c.args.a - 8) 0 (c.args.a + 8) c.set_word_at.ensures
    ∙ kept c.set_word_at.new.self c.set_word_at-2.new.self c.args.a c.mt.result (c.args.a + 8)
    c.set_word_at-2.ensures
