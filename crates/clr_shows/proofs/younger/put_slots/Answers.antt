-- Each slot has its line behind those of the slots before it, and is counted.
use Rattle.std.proofs.Common.{◌≡◌, ◌<◌, ◌∙◌, ◌++◌, ap, arith, length, List, ℕ}
use Rattle.std.specs.List.{flat_map}
use Rattle.clr_types.specs.Types.{form_at}
use Rattle.clr_heap.specs.View.{word_of}
use Rattle.clr_model.specs.Looks.{younger_line}
use Rattle.clr_model.specs.Machine.{Value}
use Rattle.clr_view.proofs.Listed.{listed-known, listed-sized, listed-small}
use Rattle.clr_view.proofs.SlotReads.{slots-counted}
use Rattle.clr_shows.specs.Younger.{object_of}
use Rattle.clr_shows.proofs.YoungerSlots.{few-slots, younger-all, younger-counted, younger-shown}
use Rattle.clr_shows.proofs.younger.put_slots.Goals as goal

pub slot_count-i-end-requires-clause-known : goal.slot_count-i-end-requires-clause-known
slot_count-i-end-requires-clause-known c =
    listed-known c.args.view.now.types.now c.args.view.now.heap.now c.args.item.now c.requires.shown.heap
    c.requires.shown.held c.requires.listed

pub slot_count-i-end-requires-clause-size : goal.slot_count-i-end-requires-clause-size
slot_count-i-end-requires-clause-size c =
    listed-small c.args.view.now.types.now c.args.view.now.heap.now c.args.item.now c.requires.shown.heap
    c.requires.shown.held c.requires.listed

pub loop-i-preserved : goal.loop-i-preserved
loop-i-preserved c =
    let o = object_of c.args.view.now c.args.item.now in
    let test = c.loop-i-test.true in
    let end = c.slot_count-i-end.ensures in
    let count = slots-counted c.args.view.now.types.now (word_of c.args.view.now.heap.now) c.args.item.now in
    let within : c.loop-i.i < length o.slots = omega (arith, test, end, count) in
    let few = c.loop-i.invariant.few in
    let one = c.in_ok-count.ensures.few in
    record {
      text = λ m shown. younger-shown m o c.loop-i.i within c.args.text.now.items c.loop-i.text.items
          c.put_slot.new.text.items (c.loop-i.invariant.text m shown) (c.in_ok-count.ensures.text m shown);
      count = λ m shown. younger-counted m o c.loop-i.i within c.loop-i.count c.in_ok-count.field-0
          (c.loop-i.invariant.count m shown) (c.in_ok-count.ensures.count m shown);
      few = omega (arith, few, one);
    }

pub returns-clause-text : goal.returns-clause-text
returns-clause-text c = λ m shown.
    let o = object_of c.args.view.now c.args.item.now in
    let past = c.loop-i-test.false in
    let within = c.loop-i.auto.i-end in
    let end = c.slot_count-i-end.ensures in
    let count = slots-counted c.args.view.now.types.now (word_of c.args.view.now.heap.now) c.args.item.now in
    let all : c.loop-i.i ≡ length o.slots = omega (arith, past, within, end, count) in
    c.loop-i.invariant.text m shown
    ∙ ap (λ (slots : List (ℕ × Value)). c.args.text.now.items ++ flat_map (younger_line m o) slots)
    (younger-all m o c.loop-i.i all)

pub returns-clause-count : goal.returns-clause-count
returns-clause-count c = λ m shown.
    let o = object_of c.args.view.now c.args.item.now in
    let past = c.loop-i-test.false in
    let within = c.loop-i.auto.i-end in
    let end = c.slot_count-i-end.ensures in
    let count = slots-counted c.args.view.now.types.now (word_of c.args.view.now.heap.now) c.args.item.now in
    let all : c.loop-i.i ≡ length o.slots = omega (arith, past, within, end, count) in
    c.loop-i.invariant.count m shown ∙ ap length (younger-all m o c.loop-i.i all)

pub returns-clause-few : goal.returns-clause-few
returns-clause-few c =
    let i = c.args.item.now in
    let few = c.loop-i.invariant.few in
    let within = c.loop-i.auto.i-end in
    let end = c.slot_count-i-end.ensures in
    let slots = few-slots (form_at c.args.view.now.types.now i.type_id.0) i.len in
    let size = listed-sized c.args.view.now.types.now c.args.view.now.heap.now i c.requires.shown.heap
    c.requires.shown.held c.requires.listed in
    omega (arith, few, within, end, slots, size)
