use Rattle.std.proofs.Common.{◌+◌, false, true, sym, ◌∙◌, arith, true≢false}
use Rattle.clr_cards.specs.Cards.{is_card_set}
use Rattle.clr_heap.specs.View.{frame}
use Rattle.clr_view.proofs.SlotReads.{reference-word, slot-low}
use Rattle.clr_generations.proofs.BarrierLaw.{barrier_law, carded-kept, carded-set, ephemeral-before}
use Rattle.clr_generations.proofs.BarrierLaw.{slot_card-covered}
use Rattle.clr_generations.proofs.barrier.set_reference.Goals as goal

pub set_slot_value-requires-clause-byte : goal.set_slot_value-requires-clause-byte
set_slot_value-requires-clause-byte c = λ bytes.
    absurd (true≢false (sym bytes ∙ reference-word c.args.types.now c.args.item.now c.args.slot c.requires.slot
    c.requires.reference))

pub overflow_add-item : goal.overflow_add-item
overflow_add-item c =
    let low = slot-low c.args.types.now c.args.heap.now c.args.item.now c.args.slot c.lawful.ensures
    c.requires.held c.requires.listed c.requires.slot in
    omega (arith, low)

pub set-requires : goal.set-requires
set-requires c =
    slot_card-covered c.args.types.now c.args.heap.now c.lawful.ensures c.requires.held c.args.item.now c.args.slot
    c.requires.listed c.requires.slot c.requires.reference c.args.cards.now c.requires.cards

pub returns-then-is_ephemeral-clause-law : goal.returns-then-is_ephemeral-clause-law
returns-then-is_ephemeral-clause-law c =
    let rows = c.args.types.now in
    let h = c.args.heap.now in
    let new = c.set_slot_value.new.heap in
    let there = ephemeral-before rows h c.lawful.ensures c.requires.held c.args.item.now c.args.slot
    c.requires.listed c.requires.slot c.requires.reference new c.args.value c.set_slot_value.ensures.stored true
    (sym c.is_ephemeral.ensures ∙ c.if-is_ephemeral.true) in
    barrier_law rows h c.lawful.ensures c.requires.held c.args.item.now c.args.slot
    c.requires.listed c.requires.slot c.requires.reference new c.args.value c.set_slot_value.ensures.stored
    c.args.cards.now c.set.new.self
    (carded-set (frame h) (c.args.item.now.place + c.args.slot.offset) c.args.value c.args.cards.now c.set.new.self
    there c.set.ensures.cards)

pub returns-else-is_ephemeral-clause-law : goal.returns-else-is_ephemeral-clause-law
returns-else-is_ephemeral-clause-law c =
    let rows = c.args.types.now in
    let h = c.args.heap.now in
    let new = c.set_slot_value.new.heap in
    let elsewhere = ephemeral-before rows h c.lawful.ensures c.requires.held c.args.item.now c.args.slot
    c.requires.listed c.requires.slot c.requires.reference new c.args.value c.set_slot_value.ensures.stored false
    (sym c.is_ephemeral.ensures ∙ c.if-is_ephemeral.false) in
    barrier_law rows h c.lawful.ensures c.requires.held c.args.item.now c.args.slot
    c.requires.listed c.requires.slot c.requires.reference new c.args.value c.set_slot_value.ensures.stored
    c.args.cards.now c.args.cards.now
    (carded-kept (frame h) (c.args.item.now.place + c.args.slot.offset) c.args.value (is_card_set c.args.cards.now)
    elsewhere)
