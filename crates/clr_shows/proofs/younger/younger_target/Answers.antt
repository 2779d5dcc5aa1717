-- The value of the slot decides.
use Rattle.std.proofs.Common.{arith}
use Rattle.std.proofs.lemmas.Bool.{not-false, not-true}
use Rattle.clr_view.proofs.Listed.{listed-known, listed-small}
use Rattle.clr_shows.proofs.YoungerObjects.{null-told, number-passed, old-told, target-stands, younger-told}
use Rattle.clr_shows.proofs.younger.younger_target.Goals as goal

pub slot-slot-requires-clause-known : goal.slot-slot-requires-clause-known
slot-slot-requires-clause-known c =
    listed-known c.args.view.now.types.now c.args.view.now.heap.now c.args.item.now c.requires.shown.heap
    c.requires.shown.held c.requires.listed

pub slot-slot-requires-clause-size : goal.slot-slot-requires-clause-size
slot-slot-requires-clause-size c =
    listed-small c.args.view.now.types.now c.args.view.now.heap.now c.args.item.now c.requires.shown.heap
    c.requires.shown.held c.requires.listed

pub returns-then-not-slot-clause-none : goal.returns-then-not-slot-clause-none
returns-then-not-slot-clause-none c = λ m shown.
    let number = not-true c.slot-slot.result.reference c.if-not-slot.true in
    number-passed c.args.view.now c.args.item.now c.args.i c.slot-slot.result c.slot-slot.ensures.slot
    number m

pub returns-then-target-eq0-clause-none : goal.returns-then-target-eq0-clause-none
returns-then-target-eq0-clause-none c = λ m shown.
    let reference = not-false c.slot-slot.result.reference c.if-not-slot.false in
    null-told c.args.view.now c.args.item.now c.args.i c.slot-slot.result c.slot-slot.ensures.slot
    c.slot_value-target.result reference c.slot_value-target.ensures c.if-target-eq0.true m

pub returns-then-gen_of-generation-clause-none : goal.returns-then-gen_of-generation-clause-none
returns-then-gen_of-generation-clause-none c = λ m shown.
    let target = c.gen_of.ensures in
    let own = c.requires.generation in
    let old = c.if-gen_of-generation.true in
    let reference = not-false c.slot-slot.result.reference c.if-not-slot.false in
    old-told c.args.view.now c.args.item.now c.args.i c.slot-slot.result c.slot-slot.ensures.slot
    c.slot_value-target.result reference c.slot_value-target.ensures m shown
    (omega (arith, target, own, old))

pub returns-clause-some : goal.returns-clause-some
returns-clause-some c = λ m shown.
    let target = c.gen_of.ensures in
    let own = c.requires.generation in
    let lower = c.if-gen_of-generation.false in
    let reference = not-false c.slot-slot.result.reference c.if-not-slot.false in
    younger-told c.args.view.now c.args.item.now c.args.i c.slot-slot.result c.slot-slot.ensures.slot
    c.slot_value-target.result reference c.slot_value-target.ensures m shown c.if-target-eq0.false
    (omega (arith, target, own, lower))

pub returns-clause-stands : goal.returns-clause-stands
returns-clause-stands c =
    let reference = not-false c.slot-slot.result.reference c.if-not-slot.false in
    target-stands c.args.view.now c.args.item.now c.args.i c.slot-slot.result c.slot-slot.ensures.slot
    c.slot_value-target.result reference c.slot_value-target.ensures c.requires.shown c.requires.listed
    c.requires.object c.if-target-eq0.false
