use Rattle.std.proofs.Common.{◌≡◌, ℕ, ◌+◌, ◌-◌, true, false, ap, sym, ◌∙◌, subst, arith, eq-eqb}
use Rattle.std.proofs.lemmas.Bool.{ne_eqb}
use Rattle.clr_types.specs.declared.item.Item.{Item}
use Rattle.clr_heap.specs.Parts.{item_at}
use Rattle.clr_heap.specs.View.{stored, word_of}
use Rattle.clr_heap.specs.Memories.{HasWord}
use Rattle.clr_heap.proofs.Spelling.{place-item_at}
use Rattle.clr_view.specs.View.{is_free}
use Rattle.clr_view.proofs.Listed.{listed-above}
use Rattle.clr_view.proofs.Standing.{cell_has}
use Rattle.clr_evacuate.specs.Forwarding.{AreCleared, IsBetween}
use Rattle.clr_evacuate.proofs.Cells.{header_in}
use Rattle.clr_evacuate.proofs.ClearedHeads.{cleared_item, cleared_object}
use Rattle.clr_evacuate.proofs.clearing.clear_item.Goals as goal

pub overflow_sub-place : goal.overflow_sub-place
overflow_sub-place c =
    let rows = c.args.types.now in
    let h = c.args.heap.now in
    let place = place-item_at rows (word_of h) c.args.place in
    let up = listed-above rows h (item_at rows (word_of h) c.args.place) c.requires.heap c.requires.held
    c.requires.listed in
    omega (arith, place, up)

pub set_word-requires : goal.set_word-requires
set_word-requires c =
    let rows = c.args.types.now in
    let h = c.args.heap.now in
    let i = item_at rows (word_of h) c.args.place in
    subst (λ (n : ℕ). HasWord h.memories (n - 8)) (place-item_at rows (word_of h) c.args.place)
    (cell_has rows h c.requires.heap c.requires.held i (i.place - 8) c.requires.listed
    (header_in rows h c.requires.heap c.requires.held i c.requires.listed))

pub returns-then-found-eq0-clause-cleared : goal.returns-then-found-eq0-clause-cleared
returns-then-found-eq0-clause-cleared c =
    let rows = c.args.types.now in
    let h = c.args.heap.now in
    let new = c.set_word.new.self in
    let i = item_at rows (word_of h) c.args.place in
    let place : i.place ≡ c.args.place = place-item_at rows (word_of h) c.args.place in
    let free : is_free i ≡ true =
    eq-eqb i.type_id.0 0 (ap (λ (x : Item). x.type_id.0) (sym c.item_of_word-found.ensures) ∙ c.if-found-eq0.true) in
    subst (λ (q : ℕ). AreCleared rows h new (λ a. IsBetween q (q + i.size) a)) place
    (cleared_item rows h c.requires.heap c.requires.held i c.requires.listed new free
    (c.set_word.ensures.value ∙ ap (λ (q : ℕ). stored h (q - 8) 0) (sym place)))

pub returns-else-found-eq0-clause-cleared : goal.returns-else-found-eq0-clause-cleared
returns-else-found-eq0-clause-cleared c =
    let rows = c.args.types.now in
    let h = c.args.heap.now in
    let i = item_at rows (word_of h) c.args.place in
    let place : i.place ≡ c.args.place = place-item_at rows (word_of h) c.args.place in
    let used : is_free i ≡ false =
    ne_eqb i.type_id.0 0
    (λ e. c.if-found-eq0.false (ap (λ (x : Item). x.type_id.0) c.item_of_word-found.ensures ∙ e)) in
    subst (λ (q : ℕ). AreCleared rows h h (λ a. IsBetween q (q + i.size) a)) place
    (cleared_object rows h c.requires.heap c.requires.held i c.requires.listed used)
