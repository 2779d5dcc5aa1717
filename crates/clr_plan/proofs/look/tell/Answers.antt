use Rattle.std.proofs.Common.{ℕ, ◌≤◌, length, sym, ap, ◌∙◌, subst}
use Rattle.clr_types.specs.Bits.{unmarked}
use Rattle.clr_types.specs.declared.item.Item.{Item}
use Rattle.clr_heap.specs.ObjectKinds.{IsObjectKind, known_size}
use Rattle.clr_heap.specs.View.{word_of}
use Rattle.clr_heap.proofs.ObjectKinds.{item-number, kind-known}
use Rattle.clr_plan.proofs.Looking.{known-item}
use Rattle.clr_plan.proofs.look.tell.Goals as goal

pub returns-in-Some-clause-size : goal.returns-in-Some-clause-size
returns-in-Some-clause-size c = (known-item c.args.types.now (word_of c.args.heap.now) c.args.place c.in-Some.size
    c.args.known.now c.requires.known (sym c.in-Some.is ∙ c.size_with.ensures
    ∙ ap (known_size c.args.known.now) c.requires.mt)).1

pub returns-in-Some-clause-object : goal.returns-in-Some-clause-object
returns-in-Some-clause-object c = (known-item c.args.types.now (word_of c.args.heap.now) c.args.place c.in-Some.size
    c.args.known.now c.requires.known (sym c.in-Some.is ∙ c.size_with.ensures
    ∙ ap (known_size c.args.known.now) c.requires.mt)).0

pub has_length-requires : goal.has_length-requires
has_length-requires c =
    let number = ap (λ (i : Item). i.type_id.0) c.item_of_word-found.ensures
    ∙ item-number c.args.types.now (word_of c.args.heap.now) c.args.place in
    let P : ℕ → Type 0 = λ n. n ≤ length c.args.types.now in
    subst P (sym number) c.requires.item.names.known

pub returns-then-not-has_length-clause-known : goal.returns-then-not-has_length-clause-known
returns-then-not-has_length-clause-known c =
    let word = c.unmarked.ensures ∙ ap unmarked c.requires.mt in
    subst (λ (w : ℕ). IsObjectKind c.args.types.now (record { mt = w; size = c.item_of_word-found.result.size }))
    (sym word) (kind-known c.args.types.now (word_of c.args.heap.now) c.args.place c.item_of_word-found.result
    c.item_of_word-found.ensures c.if-is_object.true (sym c.has_length.ensures ∙ c.if-not-has_length.true))
