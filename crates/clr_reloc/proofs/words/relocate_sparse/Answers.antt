use Rattle.std.proofs.Common.{◌≡◌, ◌+◌, ◌-◌, ap, sym, ◌∙◌, subst, arith}
use Rattle.clr_types.specs.Descriptors.{offsets_from}
use Rattle.clr_heap.specs.View.{frame}
use Rattle.clr_generations.proofs.BarrierLaw.{generation-most}
use Rattle.clr_reloc.specs.Relocated.{rebounded}
use Rattle.clr_reloc.proofs.ObjectLoops.{HasPassed, passed_all, passed_none}
use Rattle.clr_reloc.proofs.RestingWords.{run_card, run_fits, run_has, run_index, run_next, run_passed}
use Rattle.clr_reloc.proofs.EmptyWords.{all_empty}
use Rattle.clr_reloc.proofs.words.relocate_sparse.Goals as goal

pub loop-at-init : goal.loop-at-init
loop-at-init c = (
  passed_none c.args.work.now c.args.object.now c.args.heap.now c.args.pins.now c.args.cards.now c.args.last.now,
  omega arith,
)

pub overflow_mul-at : goal.overflow_mul-at
overflow_mul-at c =
    let fits = (run_fits c.args.work.now c.args.object.now c.args.heap.now c.args.pins.now c.args.cards.now
    c.args.last.now c.loop-at.heap c.loop-at.pins c.loop-at.cards c.loop-at.last c.args.run.offset c.args.run.count
    c.requires.run
    (offsets_from c.args.run.offset c.loop-at.at) c.loop-at.invariant.0 c.requires.can c.loop-at.at
    c.loop-at-test.true) in
    let small = fits.0 in
    omega (arith, small)

pub overflow_add-run : goal.overflow_add-run
overflow_add-run c =
    let fits = (run_fits c.args.work.now c.args.object.now c.args.heap.now c.args.pins.now c.args.cards.now
    c.args.last.now c.loop-at.heap c.loop-at.pins c.loop-at.cards c.loop-at.last c.args.run.offset c.args.run.count
    c.requires.run
    (offsets_from c.args.run.offset c.loop-at.at) c.loop-at.invariant.0 c.requires.can c.loop-at.at
    c.loop-at-test.true) in
    let small = fits.0 in
    omega (arith, small)

pub relocate_slot-requires-clause-fits : goal.relocate_slot-requires-clause-fits
relocate_slot-requires-clause-fits c =
    (run_fits c.args.work.now c.args.object.now c.args.heap.now c.args.pins.now c.args.cards.now c.args.last.now
    c.loop-at.heap c.loop-at.pins c.loop-at.cards c.loop-at.last c.args.run.offset c.args.run.count c.requires.run
    (offsets_from c.args.run.offset c.loop-at.at) c.loop-at.invariant.0 c.requires.can c.loop-at.at
    c.loop-at-test.true).0

pub relocate_slot-requires-clause-goes : goal.relocate_slot-requires-clause-goes
relocate_slot-requires-clause-goes c =
    (run_fits c.args.work.now c.args.object.now c.args.heap.now c.args.pins.now c.args.cards.now c.args.last.now
    c.loop-at.heap c.loop-at.pins c.loop-at.cards c.loop-at.last c.args.run.offset c.args.run.count c.requires.run
    (offsets_from c.args.run.offset c.loop-at.at) c.loop-at.invariant.0 c.requires.can c.loop-at.at
    c.loop-at-test.true).1

pub relocate_slot-requires-clause-age : goal.relocate_slot-requires-clause-age
relocate_slot-requires-clause-age c =
    let most = generation-most (rebounded (frame c.args.heap.now) c.args.work.now.planned) c.args.object.now.to in
    let age = c.requires.placed.age in
    omega (arith, most, age)

pub relocate_slot-requires-clause-can : goal.relocate_slot-requires-clause-can
relocate_slot-requires-clause-can c =
    run_next c.args.work.now c.args.object.now c.args.heap.now c.args.pins.now c.args.cards.now c.args.last.now
    c.loop-at.heap c.loop-at.pins c.loop-at.cards c.loop-at.last c.args.run.offset c.args.run.count c.requires.run
    c.loop-at.at c.loop-at-test.true c.loop-at.invariant.0 c.requires.can

pub relocate_slot-requires-clause-segment : goal.relocate_slot-requires-clause-segment
relocate_slot-requires-clause-segment c =
    run_index c.args.work.now c.args.object.now c.args.heap.now c.args.pins.now c.args.cards.now c.args.last.now
    c.loop-at.heap c.loop-at.pins c.loop-at.cards c.loop-at.last c.args.run.offset c.args.run.count c.requires.run
    (offsets_from c.args.run.offset c.loop-at.at) c.loop-at.invariant.0 c.requires.can c.loop-at.at
    c.loop-at-test.true c.requires.placed

pub relocate_slot-requires-clause-card : goal.relocate_slot-requires-clause-card
relocate_slot-requires-clause-card c =
    run_card c.args.work.now c.args.object.now c.args.heap.now c.args.pins.now c.args.cards.now c.args.last.now
    c.loop-at.heap c.loop-at.pins c.loop-at.cards c.loop-at.last c.args.run.offset c.args.run.count c.requires.run
    (offsets_from c.args.run.offset c.loop-at.at) c.loop-at.invariant.0 c.requires.can c.loop-at.at
    c.loop-at-test.true c.requires.placed

pub next_number-at-requires-clause-fits : goal.next_number-at-requires-clause-fits
next_number-at-requires-clause-fits c j l =
    let slot = c.relocate_slot in
    let passed = run_passed c.args.work.now c.args.object.now c.args.heap.now c.args.pins.now c.args.cards.now
    c.args.last.now c.loop-at.heap c.loop-at.pins c.loop-at.cards c.loop-at.last c.args.run.offset c.args.run.count
    c.requires.run
    c.loop-at.at c.loop-at-test.true c.loop-at.invariant.0 c.requires.placed.age slot.new.heap slot.new.pins
    slot.new.cards slot.new.last slot.ensures.gone slot.ensures.beside in
    (run_fits c.args.work.now c.args.object.now c.args.heap.now c.args.pins.now c.args.cards.now c.args.last.now
    slot.new.heap slot.new.pins slot.new.cards slot.new.last c.args.run.offset c.args.run.count c.requires.run
    (offsets_from c.args.run.offset (c.loop-at.at + 1)) passed c.requires.can j l).0

pub next_number-at-requires-clause-words : goal.next_number-at-requires-clause-words
next_number-at-requires-clause-words c j l =
    let slot = c.relocate_slot in
    let passed = run_passed c.args.work.now c.args.object.now c.args.heap.now c.args.pins.now c.args.cards.now
    c.args.last.now c.loop-at.heap c.loop-at.pins c.loop-at.cards c.loop-at.last c.args.run.offset c.args.run.count
    c.requires.run
    c.loop-at.at c.loop-at-test.true c.loop-at.invariant.0 c.requires.placed.age slot.new.heap slot.new.pins
    slot.new.cards slot.new.last slot.ensures.gone slot.ensures.beside in
    run_has c.args.work.now c.args.object.now c.args.heap.now c.args.pins.now c.args.cards.now c.args.last.now
    slot.new.heap slot.new.pins slot.new.cards slot.new.last c.args.run.offset c.args.run.count c.requires.run
    (offsets_from c.args.run.offset (c.loop-at.at + 1)) passed c.requires.can j l

pub next_number-at-requires-clause-segment : goal.next_number-at-requires-clause-segment
next_number-at-requires-clause-segment c j l =
    let slot = c.relocate_slot in
    let passed = run_passed c.args.work.now c.args.object.now c.args.heap.now c.args.pins.now c.args.cards.now
    c.args.last.now c.loop-at.heap c.loop-at.pins c.loop-at.cards c.loop-at.last c.args.run.offset c.args.run.count
    c.requires.run
    c.loop-at.at c.loop-at-test.true c.loop-at.invariant.0 c.requires.placed.age slot.new.heap slot.new.pins
    slot.new.cards slot.new.last slot.ensures.gone slot.ensures.beside in
    run_index c.args.work.now c.args.object.now c.args.heap.now c.args.pins.now c.args.cards.now c.args.last.now
    slot.new.heap slot.new.pins slot.new.cards slot.new.last c.args.run.offset c.args.run.count c.requires.run
    (offsets_from c.args.run.offset (c.loop-at.at + 1)) passed c.requires.can j l c.requires.placed

pub loop-at-preserved : goal.loop-at-preserved
loop-at-preserved c =
    let slot = c.relocate_slot in
    let passed = run_passed c.args.work.now c.args.object.now c.args.heap.now c.args.pins.now c.args.cards.now
    c.args.last.now c.loop-at.heap c.loop-at.pins c.loop-at.cards c.loop-at.last c.args.run.offset c.args.run.count
    c.requires.run
    c.loop-at.at c.loop-at-test.true c.loop-at.invariant.0 c.requires.placed.age slot.new.heap slot.new.pins
    slot.new.cards slot.new.last slot.ensures.gone slot.ensures.beside in
    let next = c.next_number-at.ensures in
    let after = next.after in
    let within = next.within in
    let most = generation-most (rebounded (frame c.args.heap.now) c.args.work.now.planned) c.args.object.now.to in
    let age = c.requires.placed.age in
    let e : c.loop-at.at + 1 + (c.next_number-at.result - (c.loop-at.at + 1)) ≡ c.next_number-at.result
    = omega (arith, after) in
    let more = all_empty c.args.work.now c.args.object.now c.args.heap.now c.args.pins.now c.args.cards.now
    c.args.last.now slot.new.heap slot.new.pins slot.new.cards slot.new.last age (omega (arith, most, age))
    c.requires.least c.args.run.offset c.args.run.count c.requires.run (c.loop-at.at + 1)
    (c.next_number-at.result - (c.loop-at.at + 1)) (omega (arith, after, within)) passed
    (λ i low high. next.empty i (omega (arith, low)) (omega (arith, high, after))) in (
      subst (λ m. HasPassed c.args.work.now c.args.object.now c.args.heap.now c.args.pins.now c.args.cards.now
          c.args.last.now slot.new.heap slot.new.pins slot.new.cards slot.new.last
          (offsets_from c.args.run.offset m)) e more,
      within,
    )

pub returns-clause-gone : goal.returns-clause-gone
returns-clause-gone c =
    let off = c.loop-at-test.false in
    let within = c.loop-at.invariant.1 in
    let whole : c.loop-at.at ≡ c.args.run.count = omega (arith, off, within) in
    passed_all c.args.work.now c.args.object.now c.args.heap.now c.args.pins.now c.args.cards.now c.args.last.now
    c.loop-at.heap c.loop-at.pins c.loop-at.cards c.loop-at.last
    (offsets_from c.args.run.offset c.loop-at.at) c.loop-at.invariant.0
    (ap (offsets_from c.args.run.offset) whole ∙ sym c.requires.run)

pub returns-clause-beside : goal.returns-clause-beside
returns-clause-beside c =
    c.loop-at.invariant.0.beside
