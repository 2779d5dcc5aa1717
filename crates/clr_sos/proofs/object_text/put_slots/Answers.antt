-- Each slot has its line behind those of the slots before it.
use Rattle.std.proofs.Common.{◌≡◌, ◌∙◌, ◌++◌, ◌-◌, ap, List, ℕ, arith}
use Rattle.clr_model.specs.Sos.{line, slot_words}
use Rattle.clr_view.specs.View.{word_value}
use Rattle.clr_view.proofs.Listed.{listed-known, listed-small}
use Rattle.clr_sos.specs.ObjectTexts.{slot_lines, slots_in}
use Rattle.clr_sos.proofs.ObjectTexts.{slot_lines-more, slot_lines-none}
use Rattle.clr_sos.proofs.object_text.put_slots.Goals as goal

pub slot-slot-requires-clause-known : goal.slot-slot-requires-clause-known
slot-slot-requires-clause-known c =
    listed-known c.args.types.now c.args.heap.now c.args.item.now c.requires.heap c.requires.held c.requires.listed

pub slot-slot-requires-clause-size : goal.slot-slot-requires-clause-size
slot-slot-requires-clause-size c =
    listed-small c.args.types.now c.args.heap.now c.args.item.now c.requires.heap c.requires.held c.requires.listed

pub loop-i-init : goal.loop-i-init
loop-i-init c =
    slot_lines-none c.args.text.now.items (slots_in c.args.types.now c.args.heap.now c.args.item.now) c.args.from

pub loop-i-preserved : goal.loop-i-preserved
loop-i-preserved c =
    let slots = slots_in c.args.types.now c.args.heap.now c.args.item.now in
    let value = word_value c.slot-slot.result.reference c.slot_value-value.result in
    c.in_ok-put_slot.ensures
    ∙ ap (λ (front : List ℕ). front ++ line (slot_words (c.loop-i.i, value))) c.loop-i.invariant
    ∙ slot_lines-more c.args.text.now.items slots c.args.from c.loop-i.i value c.loop-i.auto.i
    (c.slot_value-value.ensures c.loop-i.i c.slot-slot.ensures.slot)

pub returns : goal.returns
returns c =
    let slots = slots_in c.args.types.now c.args.heap.now c.args.item.now in
    let past = c.loop-i-test.false in
    let within = c.loop-i.auto.i-end in
    let order = c.requires.order in
    let all : c.loop-i.i ≡ c.args.to = omega (arith, past, within, order) in
    c.loop-i.invariant
    ∙ ap (λ (k : ℕ). c.args.text.now.items ++ slot_lines c.args.from (k - c.args.from) slots) all
