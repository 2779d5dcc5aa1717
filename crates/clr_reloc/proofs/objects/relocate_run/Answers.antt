use Rattle.std.proofs.Common.{◌≡◌, ◌+◌, ◌-◌, ◌*◌, ap, sym, ◌∙◌, subst, arith}
use Rattle.clr_types.specs.Descriptors.{offsets_from}
use Rattle.clr_mark.proofs.RunReferences.{run_more}
use Rattle.clr_heap.specs.View.{frame}
use Rattle.clr_generations.proofs.BarrierLaw.{generation-most}
use Rattle.clr_reloc.specs.Relocated.{rebounded}
use Rattle.clr_reloc.proofs.ObjectLoops.{HasPassed, passed_all, passed_more, passed_none, run_around, slot_at}
use Rattle.clr_reloc.proofs.ObjectLoops.{slot_card, slot_fits, slot_next}
use Rattle.clr_reloc.proofs.objects.relocate_run.Goals as goal

pub loop-i-init : goal.loop-i-init
loop-i-init c =
    passed_none c.args.work.now c.args.object.now c.args.heap.now c.args.pins.now c.args.cards.now c.args.last.now

pub overflow_mul-i : goal.overflow_mul-i
overflow_mul-i c =
    let w = c.args.work.now in
    let object = c.args.object.now in
    let count = c.args.run.count in
    let walked = run_around c.args.run.offset count c.loop-i.i c.loop-i-test.true ∙ sym c.requires.run in
    let (view, now, vs, r, ahead) = c.requires.can in
    let fits = slot_fits w object c.args.heap.now c.args.pins.now c.args.cards.now c.args.last.now c.loop-i.heap
    c.loop-i.pins
    c.loop-i.cards c.loop-i.last (offsets_from c.args.run.offset c.loop-i.i) (c.args.run.offset + 8 * c.loop-i.i)
    (offsets_from (c.args.run.offset + 8 * c.loop-i.i + 8) (count - c.loop-i.i - 1)) walked c.loop-i.invariant view now
    vs r ahead in
    let small = fits.0 in
    omega (arith, small)

pub overflow_add-run : goal.overflow_add-run
overflow_add-run c =
    let w = c.args.work.now in
    let object = c.args.object.now in
    let count = c.args.run.count in
    let walked = run_around c.args.run.offset count c.loop-i.i c.loop-i-test.true ∙ sym c.requires.run in
    let (view, now, vs, r, ahead) = c.requires.can in
    let fits = slot_fits w object c.args.heap.now c.args.pins.now c.args.cards.now c.args.last.now c.loop-i.heap
    c.loop-i.pins
    c.loop-i.cards c.loop-i.last (offsets_from c.args.run.offset c.loop-i.i) (c.args.run.offset + 8 * c.loop-i.i)
    (offsets_from (c.args.run.offset + 8 * c.loop-i.i + 8) (count - c.loop-i.i - 1)) walked c.loop-i.invariant view now
    vs r ahead in
    let small = fits.0 in
    omega (arith, small)

pub relocate_slot-requires-clause-fits : goal.relocate_slot-requires-clause-fits
relocate_slot-requires-clause-fits c =
    let w = c.args.work.now in
    let object = c.args.object.now in
    let count = c.args.run.count in
    let walked = run_around c.args.run.offset count c.loop-i.i c.loop-i-test.true ∙ sym c.requires.run in
    let (view, now, vs, r, ahead) = c.requires.can in
    (slot_fits w object c.args.heap.now c.args.pins.now c.args.cards.now c.args.last.now c.loop-i.heap c.loop-i.pins
    c.loop-i.cards c.loop-i.last (offsets_from c.args.run.offset c.loop-i.i) (c.args.run.offset + 8 * c.loop-i.i)
    (offsets_from (c.args.run.offset + 8 * c.loop-i.i + 8) (count - c.loop-i.i - 1)) walked c.loop-i.invariant view now
    vs r ahead).0

pub relocate_slot-requires-clause-goes : goal.relocate_slot-requires-clause-goes
relocate_slot-requires-clause-goes c =
    let w = c.args.work.now in
    let object = c.args.object.now in
    let count = c.args.run.count in
    let walked = run_around c.args.run.offset count c.loop-i.i c.loop-i-test.true ∙ sym c.requires.run in
    let (view, now, vs, r, ahead) = c.requires.can in
    (slot_fits w object c.args.heap.now c.args.pins.now c.args.cards.now c.args.last.now c.loop-i.heap c.loop-i.pins
    c.loop-i.cards c.loop-i.last (offsets_from c.args.run.offset c.loop-i.i) (c.args.run.offset + 8 * c.loop-i.i)
    (offsets_from (c.args.run.offset + 8 * c.loop-i.i + 8) (count - c.loop-i.i - 1)) walked c.loop-i.invariant view now
    vs r ahead).1

pub relocate_slot-requires-clause-age : goal.relocate_slot-requires-clause-age
relocate_slot-requires-clause-age c =
    let most = generation-most (rebounded (frame c.args.heap.now) c.args.work.now.planned) c.args.object.now.to in
    let age = c.requires.placed.age in
    omega (arith, most, age)

pub relocate_slot-requires-clause-can : goal.relocate_slot-requires-clause-can
relocate_slot-requires-clause-can c =
    let w = c.args.work.now in
    let object = c.args.object.now in
    let count = c.args.run.count in
    let walked = run_around c.args.run.offset count c.loop-i.i c.loop-i-test.true ∙ sym c.requires.run in
    let (view, now, vs, r, ahead) = c.requires.can in
    let (next, q, here) = slot_next w object c.args.heap.now c.args.pins.now c.args.cards.now c.args.last.now
    c.loop-i.heap c.loop-i.pins
    c.loop-i.cards c.loop-i.last (offsets_from c.args.run.offset c.loop-i.i) (c.args.run.offset + 8 * c.loop-i.i)
    (offsets_from (c.args.run.offset + 8 * c.loop-i.i + 8) (count - c.loop-i.i - 1)) walked c.loop-i.invariant view now
    vs r ahead in
    (view, next, vs, q, here)

pub relocate_slot-requires-clause-segment : goal.relocate_slot-requires-clause-segment
relocate_slot-requires-clause-segment c =
    let w = c.args.work.now in
    let object = c.args.object.now in
    let count = c.args.run.count in
    let walked = run_around c.args.run.offset count c.loop-i.i c.loop-i-test.true ∙ sym c.requires.run in
    let (view, now, vs, r, ahead) = c.requires.can in
    slot_at w object c.args.heap.now c.args.pins.now c.args.cards.now c.args.last.now c.loop-i.heap c.loop-i.pins
    c.loop-i.cards c.loop-i.last (offsets_from c.args.run.offset c.loop-i.i) (c.args.run.offset + 8 * c.loop-i.i)
    (offsets_from (c.args.run.offset + 8 * c.loop-i.i + 8) (count - c.loop-i.i - 1)) walked c.loop-i.invariant view now
    vs r ahead
    c.requires.placed

pub relocate_slot-requires-clause-card : goal.relocate_slot-requires-clause-card
relocate_slot-requires-clause-card c =
    let w = c.args.work.now in
    let object = c.args.object.now in
    let count = c.args.run.count in
    let walked = run_around c.args.run.offset count c.loop-i.i c.loop-i-test.true ∙ sym c.requires.run in
    let (view, now, vs, r, ahead) = c.requires.can in
    slot_card w object c.args.heap.now c.args.pins.now c.args.cards.now c.args.last.now c.loop-i.heap c.loop-i.pins
    c.loop-i.cards c.loop-i.last (offsets_from c.args.run.offset c.loop-i.i) (c.args.run.offset + 8 * c.loop-i.i)
    (offsets_from (c.args.run.offset + 8 * c.loop-i.i + 8) (count - c.loop-i.i - 1)) walked c.loop-i.invariant view now
    vs r ahead
    c.requires.placed

pub loop-i-preserved : goal.loop-i-preserved
loop-i-preserved c =
    let w = c.args.work.now in
    let object = c.args.object.now in
    let count = c.args.run.count in
    let walked = run_around c.args.run.offset count c.loop-i.i c.loop-i-test.true ∙ sym c.requires.run in
    let slot = c.relocate_slot in
    subst (HasPassed w object c.args.heap.now c.args.pins.now c.args.cards.now c.args.last.now slot.new.heap
    slot.new.pins
    slot.new.cards slot.new.last) (sym (run_more c.args.run.offset c.loop-i.i))
    (passed_more w object c.args.heap.now c.args.pins.now c.args.cards.now c.args.last.now c.loop-i.heap c.loop-i.pins
    c.loop-i.cards c.loop-i.last (offsets_from c.args.run.offset c.loop-i.i) (c.args.run.offset + 8 * c.loop-i.i)
    (offsets_from (c.args.run.offset + 8 * c.loop-i.i + 8) (count - c.loop-i.i - 1)) walked c.loop-i.invariant
    c.requires.placed.age slot.new.heap slot.new.pins slot.new.cards slot.new.last slot.ensures.gone
    slot.ensures.beside)

pub returns-clause-gone : goal.returns-clause-gone
returns-clause-gone c =
    let off = c.loop-i-test.false in
    let within = c.loop-i.auto.i-end in
    let whole : c.loop-i.i ≡ c.args.run.count = omega (arith, off, within) in
    passed_all c.args.work.now c.args.object.now c.args.heap.now c.args.pins.now c.args.cards.now c.args.last.now
    c.loop-i.heap c.loop-i.pins c.loop-i.cards c.loop-i.last (offsets_from c.args.run.offset c.loop-i.i)
    c.loop-i.invariant (ap (offsets_from c.args.run.offset) whole ∙ sym c.requires.run)

pub returns-clause-beside : goal.returns-clause-beside
returns-clause-beside c =
    c.loop-i.invariant.beside
