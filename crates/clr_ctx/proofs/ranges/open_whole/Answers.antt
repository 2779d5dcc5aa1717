use Rattle.std.proofs.Common.{◌≡◌, ℕ, ◌+◌, ◌-◌, ◌%◌, ◌≤◌, ap, sym, ◌∙◌, subst, arith}
use Rattle.clr_types.specs.Ranges.{Piece}
use Rattle.clr_types.specs.Rising.{IsIn}
use Rattle.clr_types.specs.declared.item.Item.{Item}
use Rattle.clr_heap.specs.Parts.{item_at}
use Rattle.clr_heap.specs.View.{HasItem, word_of}
use Rattle.clr_model.specs.Allocation.{from_item}
use Rattle.clr_view.specs.View.{layout_in}
use Rattle.clr_ctx.specs.Contexts.{IsRelaid, young_items}
use Rattle.clr_ctx.proofs.WholeItems.{range-is, whole-aligned, whole-ends, whole-head, whole-least, whole-size}
use Rattle.clr_ctx.proofs.ranges.open_whole.Goals as goal

pub item-size-requires : goal.item-size-requires
item-size-requires c =
    subst (HasItem c.args.types.now c.args.heap.now) c.requires.listed.2
    (whole-head c.args.types.now c.args.heap.now c.lawful.ensures c.requires.held c.requires.listed.0
    c.requires.listed.1)

pub overflow_add-place : goal.overflow_add-place
overflow_add-place c =
    let at = c.requires.listed.2 in
    let size : c.item-size.result.size ≡ c.requires.listed.0.size =
    ap (λ (x : Item). x.size) c.item-size.ensures
    ∙ ap (λ (a : ℕ). (item_at c.args.types.now (word_of c.args.heap.now) a).size) (sym at)
    ∙ whole-size c.args.types.now c.args.heap.now c.lawful.ensures c.requires.held c.requires.listed.0
    c.requires.listed.1 in
    let ends = whole-ends c.args.types.now c.args.heap.now c.lawful.ensures c.requires.held c.requires.listed.0
    c.requires.listed.1 in
    omega (arith, size, at, ends)

pub open_in_item-requires-clause-listed : goal.open_in_item-requires-clause-listed
open_in_item-requires-clause-listed c =
    let p = c.requires.listed.0 in
    let l = c.requires.listed.1 in
    let at = c.requires.listed.2 in
    subst (λ (q : Piece). IsIn q (young_items (layout_in c.args.types.now c.args.heap.now)))
    (sym (c.between.ensures ∙ range-is c.args.place c.item-size.result.size p at
    (ap (λ (x : Item). x.size) c.item-size.ensures
    ∙ ap (λ (a : ℕ). (item_at c.args.types.now (word_of c.args.heap.now) a).size) (sym at)
    ∙ whole-size c.args.types.now c.args.heap.now c.lawful.ensures c.requires.held p l))) l

pub open_in_item-requires-clause-least : goal.open_in_item-requires-clause-least
open_in_item-requires-clause-least c =
    let p = c.requires.listed.0 in
    let l = c.requires.listed.1 in
    let at = c.requires.listed.2 in
    subst (λ (n : ℕ). 24 ≤ n) (sym (ap (λ (x : Item). x.size) c.item-size.ensures
    ∙ ap (λ (a : ℕ). (item_at c.args.types.now (word_of c.args.heap.now) a).size) (sym at)
    ∙ whole-size c.args.types.now c.args.heap.now c.lawful.ensures c.requires.held p l))
    (whole-least c.args.types.now c.args.heap.now c.lawful.ensures c.requires.held p l)

pub open_in_item-requires-clause-aligned : goal.open_in_item-requires-clause-aligned
open_in_item-requires-clause-aligned c =
    let p = c.requires.listed.0 in
    let l = c.requires.listed.1 in
    let at = c.requires.listed.2 in
    subst (λ (n : ℕ). n % 8 ≡ 0) (sym (ap (λ (x : Item). x.size) c.item-size.ensures
    ∙ ap (λ (a : ℕ). (item_at c.args.types.now (word_of c.args.heap.now) a).size) (sym at)
    ∙ whole-size c.args.types.now c.args.heap.now c.lawful.ensures c.requires.held p l))
    (whole-aligned c.args.types.now c.args.heap.now c.lawful.ensures c.requires.held p l)

pub returns : goal.returns
returns c = record {
  relaid = λ item l at.
      (let rows = c.args.types.now in
      let h = c.args.heap.now in
      let size : c.item-size.result.size ≡ item.size =
      ap (λ (x : Item). x.size) c.item-size.ensures
      ∙ ap (λ (a : ℕ). (item_at rows (word_of h) a).size) (sym at)
      ∙ whole-size rows h c.lawful.ensures c.requires.held item l in
      let range = c.between.ensures ∙ range-is c.args.place c.item-size.result.size item at size in
      subst (IsRelaid rows h c.open_in_item.new.heap)
      (λ j. from_item (layout_in rows h) c.args.t (range j) (size j)) c.open_in_item.ensures.relaid);
}
