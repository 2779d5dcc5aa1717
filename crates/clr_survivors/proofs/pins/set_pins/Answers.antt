use Rattle.clr_heap.proofs.Rewrite.{shaped_heap}
use Rattle.clr_survivors.proofs.Pinning.{none_pinned, nothing_pinned, pins_done, pins_next}
use Rattle.clr_survivors.proofs.pins.set_pins.Goals as goal

pub returns-then-not-has_kind-clause-pins : goal.returns-then-not-has_kind-clause-pins
returns-then-not-has_kind-clause-pins c =
    nothing_pinned c.args.types.now c.args.heap.now c.args.handles.now c.args.low c.args.on c.requires.held
    (c.has_kind.ensures c.if-not-has_kind.true)

pub loop-number-init : goal.loop-number-init
loop-number-init c =
    none_pinned c.args.types.now c.args.heap.now c.args.handles.now c.args.low c.args.on c.requires.held
    c.lawful.ensures

pub set_pin_of-requires-clause-heap : goal.set_pin_of-requires-clause-heap
set_pin_of-requires-clause-heap c =
    shaped_heap c.args.heap.now c.loop-number.heap c.loop-number.invariant.shape c.ephemeral-near.ensures.heap

pub loop-number-preserved : goal.loop-number-preserved
loop-number-preserved c =
    pins_next c.args.types.now c.args.heap.now c.args.handles.now c.args.low c.args.on c.loop-number.heap
    c.set_pin_of.new.heap c.loop-number.before c.in-Some.number c.in-Some.handle
    (shaped_heap c.args.heap.now c.loop-number.heap c.loop-number.invariant.shape c.ephemeral-near.ensures.heap)
    c.requires.stand c.loop-number.invariant c.in-Some.ensures.found c.set_pin_of.ensures

pub returns-clause-pins : goal.returns-clause-pins
returns-clause-pins c =
    pins_done c.args.types.now c.args.heap.now c.args.handles.now c.args.low c.args.on c.loop-number.heap
    c.loop-number.before c.lawful.ensures c.loop-number.invariant c.in_default.ensures.none
