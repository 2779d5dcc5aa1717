-- The card of the slot is set, and the thread has finished its step.
use Rattle.std.proofs.Common.{arith, refl, ◌+◌}
use Rattle.clr_view.proofs.SlotReads.{slot-low}
use Rattle.clr_runtime.proofs.BegunStores.{store-below, store-covered, store-slot, store-stands}
use Rattle.clr_runtime.proofs.FinishedStores.{store_finished, store_finished_kept}
use Rattle.clr_runtime.proofs.steps.finish_store.Goals as goal
use Rattle.clr_runtime.proofs.MarkedStores.{card_logged}

pub object_item-item-requires-clause-stands : goal.object_item-item-requires-clause-stands
object_item-item-requires-clause-stands c =
    store-stands c.requires.runtime.shown c.args.t c.args.object c.args.index c.requires.begun

pub slot-slot-requires-clause-below : goal.slot-slot-requires-clause-below
slot-slot-requires-clause-below c =
    store-below c.requires.runtime.shown c.args.t c.args.object c.args.index c.requires.begun c.object_item-item.result
    c.object_item-item.ensures

pub overflow_add-address : goal.overflow_add-address
overflow_add-address c =
    let low = slot-low c.args.parts.now.types c.args.parts.now.space.heap c.object_item-item.result c.slot-slot.result
    c.requires.runtime.heap c.requires.runtime.shown.held c.object_item-item.ensures.listed
    (store-slot c.requires.runtime.shown c.args.t c.args.object c.args.index c.requires.begun c.object_item-item.result
    c.object_item-item.ensures c.slot-slot.result c.slot-slot.ensures.slot) in
    omega (arith, low)

pub set-requires : goal.set-requires
set-requires c =
    store-covered c.requires.runtime.shown c.args.t c.args.object c.args.index c.requires.begun
    c.object_item-item.result
    c.object_item-item.ensures c.slot-slot.result c.slot-slot.ensures.slot c.requires.runtime.heap
    c.args.parts.now.space.cards
    c.requires.runtime.tables.cards

pub returns-clause-finished : goal.returns-clause-finished
returns-clause-finished c =
    store_finished c.args.parts.now c.requires.runtime c.args.t c.args.object c.args.index c.requires.thread
    c.requires.begun c.set.new.self c.end.new.self c.end.ensures
    (c.object_item-item.result.place + c.slot-slot.result.offset)
    c.wrote.new.self c.wrote.ensures.value

pub returns-clause-runtime : goal.returns-clause-runtime
returns-clause-runtime c =
    store_finished_kept c.args.parts.now c.requires.runtime c.args.t c.args.object c.args.index c.requires.thread
    c.requires.begun c.set.new.self c.end.new.self c.end.ensures
    (c.object_item-item.result.place + c.slot-slot.result.offset) c.wrote.new.self c.wrote.ensures.value
    c.object_item-item.result c.object_item-item.ensures c.slot-slot.result c.slot-slot.ensures.slot refl
    (card_logged c.args.parts.now.background (c.object_item-item.result.place + c.slot-slot.result.offset)
    c.wrote.new.self c.wrote.ensures.value c.wrote.ensures.log)
    c.set.ensures.cards c.set.ensures.spans
