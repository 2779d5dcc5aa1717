use Rattle.std.proofs.Common.{ℕ, ◌≤◌, not, length, ap, sym, ◌∙◌, subst}
use Rattle.std.proofs.lemmas.Bool.{ne_eqb}
use Rattle.clr_types.specs.declared.item.Item.{Item}
use Rattle.clr_heap.specs.View.{word_of}
use Rattle.clr_sweep.proofs.DeadKinds.{dead_kind, type-item_at}
use Rattle.clr_sweep.proofs.dead.item_and_kind.Goals as goal

pub has_length-requires : goal.has_length-requires
has_length-requires c =
    let rows = c.args.types.now in
    let number = ap (λ (i : Item). i.type_id.0) c.item_of_word-found.ensures
    ∙ type-item_at rows (word_of c.args.heap.now) c.args.place in
    let P : ℕ → Type 0 = λ n. n ≤ length rows in
    subst P (sym number) c.requires.item.names.known

pub returns-then-not-has_length-clause-known : goal.returns-then-not-has_length-clause-known
returns-then-not-has_length-clause-known c =
    dead_kind c.args.types.now (word_of c.args.heap.now) c.args.place c.args.mt c.item_of_word-found.result
    c.requires.mt c.item_of_word-found.ensures (sym c.is_marked.ensures ∙ c.if-not-is_marked.true)
    (ap not (ne_eqb c.item_of_word-found.result.type_id.0 0 c.if-found-ne0.true))
    (sym c.has_length.ensures ∙ c.if-not-has_length.true)
