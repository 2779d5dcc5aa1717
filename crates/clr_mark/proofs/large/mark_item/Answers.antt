use Rattle.std.proofs.Common.{ℕ, ap, sym, ◌∙◌, subst}
use Rattle.clr_types.specs.declared.item.Item.{Item}
use Rattle.clr_heap.specs.Memories.{HasWord}
use Rattle.clr_heap.specs.View.{word_of}
use Rattle.clr_heap.proofs.Spelling.{place-item_at}
use Rattle.clr_mark.proofs.large.mark_item.Goals as goal

pub word-word-requires : goal.word-word-requires
word-word-requires c =
    let P : ℕ → Type 0 = λ q. HasWord c.args.heap.now.memories q in
    subst P (sym (ap (λ (i : Item). i.place) c.item-found.ensures
    ∙ place-item_at c.args.types.now (word_of c.args.heap.now) c.args.place)) c.requires.mt

pub set_word-requires : goal.set_word-requires
set_word-requires c =
    let P : ℕ → Type 0 = λ q. HasWord c.args.heap.now.memories q in
    subst P (sym (ap (λ (i : Item). i.place) c.item-found.ensures
    ∙ place-item_at c.args.types.now (word_of c.args.heap.now) c.args.place)) c.requires.mt
