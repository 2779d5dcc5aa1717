use Rattle.std.proofs.Common.{◌≡◌, ◌+◌, Option, Some, ap, sym, ◌∙◌, subst}
use Rattle.clr_heap.specs.View.{HeapView, stored, word_of}
use Rattle.clr_pinq.specs.Bounds.{CanPutBack}
use Rattle.clr_pinq.specs.Queue.{option_word, or_else}
use Rattle.clr_pinq.specs.declared.entry.Saved.{Saved}
use Rattle.clr_pinq.proofs.PutBack.{saved_shape, saved_words, second_held, third_held, with_saved}
use Rattle.clr_pinq.proofs.queue.put.Goals as goal

-- what is asked of the three words
asked : (h : HeapView) (o : Option Saved) (s : Saved) → o ≡ Some s → CanPutBack h o → CanPutBack h (Some s)
asked h o s is can = let P : Option Saved → Type 0 = CanPutBack h in subst P is can

pub set_word-requires : goal.set_word-requires
set_word-requires c = (asked c.args.heap.now c.args.saved c.in-Some.saved c.in-Some.is c.requires).0

pub set_word-requires-in-Some : goal.set_word-requires-in-Some
set_word-requires-in-Some c =
    rw c.set_word.ensures.value
    (second_held c.args.heap.now c.in-Some.saved
    (asked c.args.heap.now c.args.saved c.in-Some.saved c.in-Some.is c.requires))

pub set_word-requires-in-Some-2 : goal.set_word-requires-in-Some-2
set_word-requires-in-Some-2 c =
    rw (c.set_word-in-Some.ensures.value, c.set_word.ensures.value)
    (third_held c.args.heap.now c.in-Some.saved
    (asked c.args.heap.now c.args.saved c.in-Some.saved c.in-Some.is c.requires))

pub returns-in-Some : goal.returns-in-Some
returns-in-Some c =
    let h = c.args.heap.now in
    let s = c.in-Some.saved in
    let can = asked h c.args.saved s c.in-Some.is c.requires in
    let now : c.set_word-in-Some-2.new.self ≡ with_saved h s =
    c.set_word-in-Some-2.ensures.value ∙ ap (λ (v : HeapView). stored v (s.at + 16) s.w2)
    (c.set_word-in-Some.ensures.value ∙ ap (λ (v : HeapView). stored v (s.at + 8) s.w1) c.set_word.ensures.value) in
    record {
      words = λ b z. ap (λ (v : HeapView). word_of v b) now ∙ saved_words h s can b z
          ∙ ap (λ (o : Option Saved). or_else (option_word o b) (word_of h b)) (sym c.in-Some.is);
      shape = rw now (saved_shape h s can);
    }
