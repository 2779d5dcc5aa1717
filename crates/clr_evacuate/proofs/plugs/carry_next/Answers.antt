use Rattle.std.proofs.Common.{◌≡◌, ℕ, ◌<◌, true, ap, sym, ◌∙◌, subst}
use Rattle.clr_types.specs.Segments.{ephemeral, stands_in}
use Rattle.clr_types.specs.declared.item.Item.{Item}
use Rattle.clr_heap.specs.View.{frame, word_of}
use Rattle.clr_heap.proofs.Spelling.{place-item_at}
use Rattle.clr_evacuate.proofs.plugs.carry_next.Goals as goal

pub carry_entered-requires-clause-inside : goal.carry_entered-requires-clause-inside
carry_entered-requires-clause-inside c =
    subst (λ (p : ℕ). stands_in (ephemeral (frame c.args.heap.now)) p ≡ true)
    (sym (ap (λ (i : Item). i.place) c.item-object.ensures
    ∙ place-item_at c.args.types.now (word_of c.args.heap.now) c.args.place)) c.requires.inside

pub carry_entered-requires-clause-old : goal.carry_entered-requires-clause-old
carry_entered-requires-clause-old c =
    subst (λ (p : ℕ). p < c.args.heap.now.start0)
    (sym (ap (λ (i : Item). i.place) c.item-object.ensures
    ∙ place-item_at c.args.types.now (word_of c.args.heap.now) c.args.place)) c.requires.old

pub returns-clause-heap : goal.returns-clause-heap
returns-clause-heap c = c.carry_entered.ensures.heap
