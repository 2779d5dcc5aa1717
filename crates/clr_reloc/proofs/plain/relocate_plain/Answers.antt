use Rattle.std.proofs.Common.{◌≡◌, ◌+◌, ◌*◌, ap, sym, ◌∙◌, arith, refl}
use Rattle.clr_types.specs.Descriptors.{offsets_from}
use Rattle.clr_heap.specs.View.{frame}
use Rattle.clr_generations.proofs.BarrierLaw.{generation-most}
use Rattle.clr_reloc.specs.Relocated.{rebounded}
use Rattle.clr_reloc.proofs.ObjectLoops.{passed_all, passed_none}
use Rattle.clr_reloc.proofs.LookingAhead.{found_ahead, none_ahead, passed_near, told_on}
use Rattle.clr_reloc.proofs.RestingWords.{run_card, run_fits, run_has, run_index, run_inside, run_next, run_passed}
use Rattle.clr_reloc.proofs.plain.relocate_plain.Goals as goal

pub lowest_young-young-requires : goal.lowest_young-young-requires
lowest_young-young-requires c =
    let most = generation-most (rebounded (frame c.args.heap.now) c.args.work.now.planned) c.args.object.now.to in
    let age = c.requires.placed.age in
    omega (arith, most, age)

pub loop-i-init : goal.loop-i-init
loop-i-init c = record {
  passed =
      passed_none c.args.work.now c.args.object.now c.args.heap.now c.args.pins.now c.args.cards.now c.args.last.now;
  ahead =
      none_ahead c.args.work.now c.args.object.now c.args.heap.now c.args.pins.now c.args.cards.now c.args.last.now 8;
  room = refl;
}

pub come_near-until-requires-clause-fits : goal.come_near-until-requires-clause-fits
come_near-until-requires-clause-fits c j l =
    (run_fits c.args.work.now c.args.object.now c.args.heap.now c.args.pins.now c.args.cards.now c.args.last.now
    c.loop-i.heap c.args.pins.now c.loop-i.cards c.loop-i.last c.args.run.offset c.args.run.count c.requires.run
    (offsets_from c.args.run.offset c.loop-i.i) c.loop-i.invariant.passed c.requires.can j l).0

pub come_near-until-requires-clause-words : goal.come_near-until-requires-clause-words
come_near-until-requires-clause-words c j l =
    run_has c.args.work.now c.args.object.now c.args.heap.now c.args.pins.now c.args.cards.now c.args.last.now
    c.loop-i.heap c.args.pins.now c.loop-i.cards c.loop-i.last c.args.run.offset c.args.run.count c.requires.run
    (offsets_from c.args.run.offset c.loop-i.i) c.loop-i.invariant.passed c.requires.can j l

pub come_near-until-requires-clause-segment : goal.come_near-until-requires-clause-segment
come_near-until-requires-clause-segment c j l =
    run_index c.args.work.now c.args.object.now c.args.heap.now c.args.pins.now c.args.cards.now c.args.last.now
    c.loop-i.heap c.args.pins.now c.loop-i.cards c.loop-i.last c.args.run.offset c.args.run.count c.requires.run
    (offsets_from c.args.run.offset c.loop-i.i) c.loop-i.invariant.passed c.requires.can j l c.requires.placed

pub come_near-until-requires-clause-told : goal.come_near-until-requires-clause-told
come_near-until-requires-clause-told c =
    told_on c.args.work.now c.args.object.now c.args.heap.now c.args.pins.now c.args.cards.now c.args.last.now
    c.loop-i.heap c.args.pins.now c.loop-i.cards c.loop-i.last (offsets_from c.args.run.offset c.loop-i.i)
    c.loop-i.invariant.passed c.requires.can

pub overflow_mul-i : goal.overflow_mul-i
overflow_mul-i c =
    let fits =
    run_fits c.args.work.now c.args.object.now c.args.heap.now c.args.pins.now c.args.cards.now c.args.last.now
    c.loop-i.heap c.args.pins.now c.loop-i.cards c.loop-i.last c.args.run.offset c.args.run.count c.requires.run
    (offsets_from c.args.run.offset c.loop-i.i) c.loop-i.invariant.passed c.requires.can c.loop-i.i
    (omega (arith, c.loop-i-test.true)) in
    let small = fits.0 in
    omega (arith, small)

pub overflow_add-run : goal.overflow_add-run
overflow_add-run c =
    let fits =
    run_fits c.args.work.now c.args.object.now c.args.heap.now c.args.pins.now c.args.cards.now c.args.last.now
    c.loop-i.heap c.args.pins.now c.loop-i.cards c.loop-i.last c.args.run.offset c.args.run.count c.requires.run
    (offsets_from c.args.run.offset c.loop-i.i) c.loop-i.invariant.passed c.requires.can c.loop-i.i
    (omega (arith, c.loop-i-test.true)) in
    let small = fits.0 in
    omega (arith, small)

pub relocate_plain_slot-requires-clause-fits : goal.relocate_plain_slot-requires-clause-fits
relocate_plain_slot-requires-clause-fits c =
    (run_fits c.args.work.now c.args.object.now c.args.heap.now c.args.pins.now c.args.cards.now c.args.last.now
    c.loop-i.heap c.args.pins.now c.loop-i.cards c.loop-i.last c.args.run.offset c.args.run.count c.requires.run
    (offsets_from c.args.run.offset c.loop-i.i) c.loop-i.invariant.passed c.requires.can c.loop-i.i
    (omega (arith, c.loop-i-test.true))).0

pub relocate_plain_slot-requires-clause-goes : goal.relocate_plain_slot-requires-clause-goes
relocate_plain_slot-requires-clause-goes c =
    (run_fits c.args.work.now c.args.object.now c.args.heap.now c.args.pins.now c.args.cards.now c.args.last.now
    c.loop-i.heap c.args.pins.now c.loop-i.cards c.loop-i.last c.args.run.offset c.args.run.count c.requires.run
    (offsets_from c.args.run.offset c.loop-i.i) c.loop-i.invariant.passed c.requires.can c.loop-i.i
    (omega (arith, c.loop-i-test.true))).1

pub relocate_plain_slot-requires-clause-age : goal.relocate_plain_slot-requires-clause-age
relocate_plain_slot-requires-clause-age c =
    let most = generation-most (rebounded (frame c.args.heap.now) c.args.work.now.planned) c.args.object.now.to in
    let age = c.requires.placed.age in
    omega (arith, most, age)

pub relocate_plain_slot-requires-clause-can : goal.relocate_plain_slot-requires-clause-can
relocate_plain_slot-requires-clause-can c =
    let near = c.come_near-until in
    let passed = passed_near c.args.work.now c.args.object.now c.args.heap.now c.args.pins.now c.args.cards.now
    c.args.last.now c.loop-i.heap c.args.pins.now c.loop-i.cards c.loop-i.last
    (offsets_from c.args.run.offset c.loop-i.i) c.loop-i.invariant.passed c.loop-i.ahead near.new.ahead near.new.last
    c.loop-i.invariant.ahead near.ensures in
    run_next c.args.work.now c.args.object.now c.args.heap.now c.args.pins.now c.args.cards.now c.args.last.now
    c.loop-i.heap c.args.pins.now c.loop-i.cards near.new.last c.args.run.offset c.args.run.count c.requires.run
    c.loop-i.i (omega (arith, c.loop-i-test.true)) passed c.requires.can

pub relocate_plain_slot-requires-clause-segment : goal.relocate_plain_slot-requires-clause-segment
relocate_plain_slot-requires-clause-segment c =
    run_index c.args.work.now c.args.object.now c.args.heap.now c.args.pins.now c.args.cards.now c.args.last.now
    c.loop-i.heap c.args.pins.now c.loop-i.cards c.loop-i.last c.args.run.offset c.args.run.count c.requires.run
    (offsets_from c.args.run.offset c.loop-i.i) c.loop-i.invariant.passed c.requires.can c.loop-i.i
    (omega (arith, c.loop-i-test.true)) c.requires.placed

pub relocate_plain_slot-requires-clause-card : goal.relocate_plain_slot-requires-clause-card
relocate_plain_slot-requires-clause-card c =
    run_card c.args.work.now c.args.object.now c.args.heap.now c.args.pins.now c.args.cards.now c.args.last.now
    c.loop-i.heap c.args.pins.now c.loop-i.cards c.loop-i.last c.args.run.offset c.args.run.count c.requires.run
    (offsets_from c.args.run.offset c.loop-i.i) c.loop-i.invariant.passed c.requires.can c.loop-i.i
    (omega (arith, c.loop-i-test.true)) c.requires.placed

pub relocate_plain_slot-requires-clause-plain : goal.relocate_plain_slot-requires-clause-plain
relocate_plain_slot-requires-clause-plain c =
    let inside =
    run_inside c.args.work.now c.args.object.now c.args.heap.now c.args.pins.now c.args.cards.now c.args.last.now
    c.loop-i.heap c.args.pins.now c.loop-i.cards c.loop-i.last c.args.run.offset c.args.run.count c.requires.run
    (offsets_from c.args.run.offset c.loop-i.i) c.loop-i.invariant.passed c.requires.can c.loop-i.i
    (omega (arith, c.loop-i-test.true)) in
    c.requires.plain (c.args.object.now.found.place + (c.args.run.offset + 8 * c.loop-i.i)) inside.0 inside.1

pub loop-i-preserved : goal.loop-i-preserved
loop-i-preserved c =
    let slot = c.relocate_plain_slot in
    let near = c.come_near-until in
    let passed = passed_near c.args.work.now c.args.object.now c.args.heap.now c.args.pins.now c.args.cards.now
    c.args.last.now c.loop-i.heap c.args.pins.now c.loop-i.cards c.loop-i.last
    (offsets_from c.args.run.offset c.loop-i.i) c.loop-i.invariant.passed c.loop-i.ahead near.new.ahead near.new.last
    c.loop-i.invariant.ahead near.ensures in
    record {
      passed = run_passed c.args.work.now c.args.object.now c.args.heap.now c.args.pins.now c.args.cards.now
          c.args.last.now c.loop-i.heap c.args.pins.now c.loop-i.cards near.new.last c.args.run.offset c.args.run.count
          c.requires.run c.loop-i.i (omega (arith, c.loop-i-test.true)) passed c.requires.placed.age slot.new.heap
          c.args.pins.now slot.new.cards slot.new.last slot.ensures.gone slot.ensures.beside;
      ahead = found_ahead c.args.work.now c.args.object.now c.args.heap.now c.args.pins.now c.args.cards.now
          c.args.last.now c.loop-i.heap c.args.pins.now c.loop-i.cards c.loop-i.last
          (offsets_from c.args.run.offset c.loop-i.i) c.loop-i.invariant.passed c.loop-i.ahead near.new.ahead
          near.new.last c.loop-i.invariant.ahead near.ensures;
      room = near.auto.ahead ∙ c.loop-i.invariant.room;
    }

pub returns-clause-gone : goal.returns-clause-gone
returns-clause-gone c =
    let off = c.loop-i-test.false in
    let within = c.loop-i.auto.i-end in
    let whole : c.loop-i.i ≡ c.args.run.count = omega (arith, off, within) in
    passed_all c.args.work.now c.args.object.now c.args.heap.now c.args.pins.now c.args.cards.now c.args.last.now
    c.loop-i.heap c.args.pins.now c.loop-i.cards c.loop-i.last (offsets_from c.args.run.offset c.loop-i.i)
    c.loop-i.invariant.passed (ap (offsets_from c.args.run.offset) whole ∙ sym c.requires.run)

pub returns-clause-beside : goal.returns-clause-beside
returns-clause-beside c =
    c.loop-i.invariant.passed.beside
