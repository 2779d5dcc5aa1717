use Rattle.std.proofs.Common.{◌≡◌, ◌%◌, List, ap, sym, ◌∙◌, arith}
use Rattle.std.proofs.lemmas.Bool.{eqb-false}
use Rattle.clr_mem.specs.Words.{Memory}
use Rattle.clr_heap.specs.Memories.{store_in}
use Rattle.clr_heap.specs.Parts.{unmarked}
use Rattle.clr_heap.specs.View.{HeapView, word_of}
use Rattle.clr_heap.proofs.Storing.{store_in-same}
use Rattle.clr_compact.proofs.entering.clear_mark.Goals as goal

pub returns-else-is_marked-clause-heap : goal.returns-else-is_marked-clause-heap
returns-else-is_marked-clause-heap c =
    let h : HeapView = c.args.heap.now in
    let place = c.args.place in
    let mt = c.word_at-mt.ensures in
    let even = eqb-false (c.word_at-mt.result % 2) 1 (sym c.is_marked.ensures ∙ c.if-is_marked.false) in
    let same : unmarked (word_of h place) ≡ word_of h place = omega (arith, mt, even) in
    sym (ap (λ (ms : List Memory). record h { memories = ms })
    (ap (store_in h.memories place) same ∙ store_in-same h.memories place))
