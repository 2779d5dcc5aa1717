use Rattle.std.proofs.Common.{◌≡◌, ◌+◌, ◌*◌, ◌<◌, ap, sym, ◌∙◌, subst, arith}
use Rattle.clr_types.specs.Descriptors.{offsets_from}
use Rattle.clr_heap.specs.Memories.{HasWord, memory_index}
use Rattle.clr_heap.specs.View.{frame}
use Rattle.clr_generations.proofs.BarrierLaw.{generation-most}
use Rattle.clr_reloc.specs.Relocated.{rebounded}
use Rattle.clr_reloc.proofs.ObjectLoops.{passed_all, passed_none}
use Rattle.clr_reloc.proofs.RestingWords.{all_rest, run_card, run_fits, run_has, run_index, run_next, run_passed, run_row}
use Rattle.clr_reloc.proofs.words.relocate_words.Goals as goal

pub loop-at-init : goal.loop-at-init
loop-at-init c = (
  passed_none c.args.work.now c.args.object.now c.args.heap.now c.args.pins.now c.args.cards.now c.args.last.now,
  omega arith,
)

pub overflow_mul-at : goal.overflow_mul-at
overflow_mul-at c =
    let fits = run_fits c.args.work.now c.args.object.now c.args.heap.now c.args.pins.now c.args.cards.now
    c.args.last.now
    c.loop-at.heap c.loop-at.pins c.loop-at.cards c.loop-at.last c.args.run.offset c.args.run.count c.requires.run
    (offsets_from c.args.run.offset c.loop-at.at) c.loop-at.invariant.0 c.requires.can c.loop-at.at c.loop-at-test.true
    in
    let small = fits.0 in
    omega (arith, small)

pub overflow_add-run : goal.overflow_add-run
overflow_add-run c =
    let fits = run_fits c.args.work.now c.args.object.now c.args.heap.now c.args.pins.now c.args.cards.now
    c.args.last.now
    c.loop-at.heap c.loop-at.pins c.loop-at.cards c.loop-at.last c.args.run.offset c.args.run.count c.requires.run
    (offsets_from c.args.run.offset c.loop-at.at) c.loop-at.invariant.0 c.requires.can c.loop-at.at c.loop-at-test.true
    in
    let small = fits.0 in
    omega (arith, small)

pub still_words-at-requires-clause-age : goal.still_words-at-requires-clause-age
still_words-at-requires-clause-age c =
    let most = generation-most (rebounded (frame c.args.heap.now) c.args.work.now.planned) c.args.object.now.to in
    let age = c.requires.placed.age in
    omega (arith, most, age)

pub still_words-at-requires-clause-fits : goal.still_words-at-requires-clause-fits
still_words-at-requires-clause-fits c j l =
    let fits = run_fits c.args.work.now c.args.object.now c.args.heap.now c.args.pins.now c.args.cards.now
    c.args.last.now
    c.loop-at.heap c.loop-at.pins c.loop-at.cards c.loop-at.last c.args.run.offset c.args.run.count c.requires.run
    (offsets_from c.args.run.offset c.loop-at.at) c.loop-at.invariant.0 c.requires.can (c.loop-at.at + j)
    (omega (arith, l)) in
    let small = fits.0 in
    omega (arith, small)

pub still_words-at-requires-clause-goes : goal.still_words-at-requires-clause-goes
still_words-at-requires-clause-goes c =
    (run_fits c.args.work.now c.args.object.now c.args.heap.now c.args.pins.now c.args.cards.now c.args.last.now
    c.loop-at.heap c.loop-at.pins c.loop-at.cards c.loop-at.last c.args.run.offset c.args.run.count c.requires.run
    (offsets_from c.args.run.offset c.loop-at.at) c.loop-at.invariant.0 c.requires.can c.loop-at.at
    c.loop-at-test.true).1

pub still_words-at-requires-clause-words : goal.still_words-at-requires-clause-words
still_words-at-requires-clause-words c j l =
    let place = c.args.object.now.found.place in
    let at : place + (c.args.run.offset + 8 * (c.loop-at.at + j)) ≡ place + (c.args.run.offset + 8 * c.loop-at.at) + 8
    * j
    = omega arith in
    subst (HasWord c.loop-at.heap.memories) at
    (run_has c.args.work.now c.args.object.now c.args.heap.now c.args.pins.now c.args.cards.now c.args.last.now
    c.loop-at.heap c.loop-at.pins c.loop-at.cards c.loop-at.last c.args.run.offset c.args.run.count c.requires.run
    (offsets_from c.args.run.offset c.loop-at.at) c.loop-at.invariant.0 c.requires.can (c.loop-at.at + j) (omega
    (arith, l)))

pub still_words-at-requires-clause-segment : goal.still_words-at-requires-clause-segment
still_words-at-requires-clause-segment c j l =
    let place = c.args.object.now.found.place in
    let at : place + (c.args.run.offset + 8 * (c.loop-at.at + j)) ≡ place + (c.args.run.offset + 8 * c.loop-at.at) + 8
    * j
    = omega arith in
    run_index c.args.work.now c.args.object.now c.args.heap.now c.args.pins.now c.args.cards.now c.args.last.now
    c.loop-at.heap c.loop-at.pins c.loop-at.cards c.loop-at.last c.args.run.offset c.args.run.count c.requires.run
    (offsets_from c.args.run.offset c.loop-at.at) c.loop-at.invariant.0 c.requires.can (c.loop-at.at + j) (omega
    (arith, l))
    c.requires.placed
    ∙ ap (memory_index c.loop-at.heap.memories) at

pub still_words-at-requires-clause-card : goal.still_words-at-requires-clause-card
still_words-at-requires-clause-card c =
    run_card c.args.work.now c.args.object.now c.args.heap.now c.args.pins.now c.args.cards.now c.args.last.now
    c.loop-at.heap c.loop-at.pins c.loop-at.cards c.loop-at.last c.args.run.offset c.args.run.count c.requires.run
    (offsets_from c.args.run.offset c.loop-at.at) c.loop-at.invariant.0 c.requires.can c.loop-at.at c.loop-at-test.true
    c.requires.placed

pub overflow_mul-at-in-loop-at : goal.overflow_mul-at-in-loop-at
overflow_mul-at-in-loop-at c =
    let resting = c.still_words-at.ensures in
    let within = resting.within in
    let low = c.loop-at.invariant.1 in
    let ne = c.if-at-run.false in
    let fits = run_fits c.args.work.now c.args.object.now c.args.heap.now c.args.pins.now c.args.cards.now
    c.args.last.now
    c.loop-at.heap c.loop-at.pins c.loop-at.cards c.loop-at.last c.args.run.offset c.args.run.count c.requires.run
    (offsets_from c.args.run.offset c.loop-at.at) c.loop-at.invariant.0 c.requires.can
    (c.loop-at.at + c.still_words-at.result) (omega (arith, within, low, ne)) in
    let small = fits.0 in
    omega (arith, small)

pub overflow_add-run-in-loop-at : goal.overflow_add-run-in-loop-at
overflow_add-run-in-loop-at c =
    let resting = c.still_words-at.ensures in
    let within = resting.within in
    let low = c.loop-at.invariant.1 in
    let ne = c.if-at-run.false in
    let fits = run_fits c.args.work.now c.args.object.now c.args.heap.now c.args.pins.now c.args.cards.now
    c.args.last.now
    c.loop-at.heap c.loop-at.pins c.loop-at.cards c.loop-at.last c.args.run.offset c.args.run.count c.requires.run
    (offsets_from c.args.run.offset c.loop-at.at) c.loop-at.invariant.0 c.requires.can
    (c.loop-at.at + c.still_words-at.result) (omega (arith, within, low, ne)) in
    let small = fits.0 in
    omega (arith, small)

pub relocate_slot-requires-clause-fits : goal.relocate_slot-requires-clause-fits
relocate_slot-requires-clause-fits c =
    let resting = c.still_words-at.ensures in
    let within = resting.within in
    let low = c.loop-at.invariant.1 in
    let ne = c.if-at-run.false in
    (run_fits c.args.work.now c.args.object.now c.args.heap.now c.args.pins.now c.args.cards.now c.args.last.now
    c.loop-at.heap c.loop-at.pins c.loop-at.cards c.loop-at.last c.args.run.offset c.args.run.count c.requires.run
    (offsets_from c.args.run.offset c.loop-at.at) c.loop-at.invariant.0 c.requires.can
    (c.loop-at.at + c.still_words-at.result) (omega (arith, within, low, ne))).0

pub relocate_slot-requires-clause-goes : goal.relocate_slot-requires-clause-goes
relocate_slot-requires-clause-goes c =
    let resting = c.still_words-at.ensures in
    let within = resting.within in
    let low = c.loop-at.invariant.1 in
    let ne = c.if-at-run.false in
    (run_fits c.args.work.now c.args.object.now c.args.heap.now c.args.pins.now c.args.cards.now c.args.last.now
    c.loop-at.heap c.loop-at.pins c.loop-at.cards c.loop-at.last c.args.run.offset c.args.run.count c.requires.run
    (offsets_from c.args.run.offset c.loop-at.at) c.loop-at.invariant.0 c.requires.can
    (c.loop-at.at + c.still_words-at.result) (omega (arith, within, low, ne))).1

pub relocate_slot-requires-clause-age : goal.relocate_slot-requires-clause-age
relocate_slot-requires-clause-age c =
    let most = generation-most (rebounded (frame c.args.heap.now) c.args.work.now.planned) c.args.object.now.to in
    let age = c.requires.placed.age in
    omega (arith, most, age)

pub relocate_slot-requires-clause-can : goal.relocate_slot-requires-clause-can
relocate_slot-requires-clause-can c =
    let resting = c.still_words-at.ensures in
    let within = resting.within in
    let low = c.loop-at.invariant.1 in
    let passed = all_rest c.args.work.now c.args.object.now c.args.heap.now c.args.pins.now c.args.cards.now
    c.args.last.now c.loop-at.heap c.loop-at.pins c.loop-at.cards c.loop-at.last c.requires.placed.age c.requires.few
    c.args.run.offset c.args.run.count c.requires.run c.loop-at.at c.still_words-at.result
    (omega (arith, within, low)) c.loop-at.invariant.0 resting.rest in
    let ne = c.if-at-run.false in
    run_next c.args.work.now c.args.object.now c.args.heap.now c.args.pins.now c.args.cards.now c.args.last.now
    c.loop-at.heap c.loop-at.pins c.loop-at.cards c.loop-at.last c.args.run.offset c.args.run.count c.requires.run
    (c.loop-at.at + c.still_words-at.result) (omega (arith, within, low, ne)) passed c.requires.can

pub relocate_slot-requires-clause-segment : goal.relocate_slot-requires-clause-segment
relocate_slot-requires-clause-segment c =
    let resting = c.still_words-at.ensures in
    let within = resting.within in
    let low = c.loop-at.invariant.1 in
    let ne = c.if-at-run.false in
    run_index c.args.work.now c.args.object.now c.args.heap.now c.args.pins.now c.args.cards.now c.args.last.now
    c.loop-at.heap c.loop-at.pins c.loop-at.cards c.loop-at.last c.args.run.offset c.args.run.count c.requires.run
    (offsets_from c.args.run.offset c.loop-at.at) c.loop-at.invariant.0 c.requires.can
    (c.loop-at.at + c.still_words-at.result) (omega (arith, within, low, ne)) c.requires.placed

pub relocate_slot-requires-clause-card : goal.relocate_slot-requires-clause-card
relocate_slot-requires-clause-card c =
    let resting = c.still_words-at.ensures in
    let within = resting.within in
    let low = c.loop-at.invariant.1 in
    let ne = c.if-at-run.false in
    run_card c.args.work.now c.args.object.now c.args.heap.now c.args.pins.now c.args.cards.now c.args.last.now
    c.loop-at.heap c.loop-at.pins c.loop-at.cards c.loop-at.last c.args.run.offset c.args.run.count c.requires.run
    (offsets_from c.args.run.offset c.loop-at.at) c.loop-at.invariant.0 c.requires.can
    (c.loop-at.at + c.still_words-at.result) (omega (arith, within, low, ne)) c.requires.placed

pub loop-at-preserved : goal.loop-at-preserved
loop-at-preserved c =
    let resting = c.still_words-at.ensures in
    let within = resting.within in
    let low = c.loop-at.invariant.1 in
    let passed = all_rest c.args.work.now c.args.object.now c.args.heap.now c.args.pins.now c.args.cards.now
    c.args.last.now c.loop-at.heap c.loop-at.pins c.loop-at.cards c.loop-at.last c.requires.placed.age c.requires.few
    c.args.run.offset c.args.run.count c.requires.run c.loop-at.at c.still_words-at.result
    (omega (arith, within, low)) c.loop-at.invariant.0 resting.rest in
    let ne = c.if-at-run.false in
    let slot = c.relocate_slot in
    let less : c.loop-at.at + c.still_words-at.result < c.args.run.count = omega (arith, within, low, ne) in (
      run_passed c.args.work.now c.args.object.now c.args.heap.now c.args.pins.now c.args.cards.now c.args.last.now
          c.loop-at.heap c.loop-at.pins c.loop-at.cards c.loop-at.last c.args.run.offset c.args.run.count c.requires.run
          (c.loop-at.at + c.still_words-at.result) less passed c.requires.placed.age slot.new.heap slot.new.pins
          slot.new.cards slot.new.last slot.ensures.gone slot.ensures.beside,
      omega (arith, less),
    )

pub returns-then-at-run-clause-gone : goal.returns-then-at-run-clause-gone
returns-then-at-run-clause-gone c =
    let resting = c.still_words-at.ensures in
    let within = resting.within in
    let low = c.loop-at.invariant.1 in
    let passed = all_rest c.args.work.now c.args.object.now c.args.heap.now c.args.pins.now c.args.cards.now
    c.args.last.now c.loop-at.heap c.loop-at.pins c.loop-at.cards c.loop-at.last c.requires.placed.age c.requires.few
    c.args.run.offset c.args.run.count c.requires.run c.loop-at.at c.still_words-at.result
    (omega (arith, within, low)) c.loop-at.invariant.0 resting.rest in
    passed_all c.args.work.now c.args.object.now c.args.heap.now c.args.pins.now c.args.cards.now c.args.last.now
    c.loop-at.heap c.loop-at.pins c.loop-at.cards c.loop-at.last
    (offsets_from c.args.run.offset (c.loop-at.at + c.still_words-at.result)) passed
    (ap (offsets_from c.args.run.offset) c.if-at-run.true ∙ sym c.requires.run)

pub returns-then-at-run-clause-beside : goal.returns-then-at-run-clause-beside
returns-then-at-run-clause-beside c =
    c.loop-at.invariant.0.beside

pub returns-clause-gone : goal.returns-clause-gone
returns-clause-gone c =
    let off = c.loop-at-test.false in
    let within = c.loop-at.invariant.1 in
    let whole : c.loop-at.at ≡ c.args.run.count = omega (arith, off, within) in
    passed_all c.args.work.now c.args.object.now c.args.heap.now c.args.pins.now c.args.cards.now c.args.last.now
    c.loop-at.heap c.loop-at.pins c.loop-at.cards c.loop-at.last
    (offsets_from c.args.run.offset c.loop-at.at) c.loop-at.invariant.0
    (ap (offsets_from c.args.run.offset) whole ∙ sym c.requires.run)

pub returns-clause-beside : goal.returns-clause-beside
returns-clause-beside c =
    c.loop-at.invariant.0.beside

pub still_words-at-requires-clause-row : goal.still_words-at-requires-clause-row
still_words-at-requires-clause-row c on = (run_row c.args.work.now c.args.object.now c.args.heap.now c.args.pins.now
    c.args.cards.now c.args.last.now
    c.loop-at.heap c.loop-at.pins c.loop-at.cards c.loop-at.last c.args.run.offset c.args.run.count c.requires.run
    (offsets_from c.args.run.offset c.loop-at.at) c.loop-at.invariant.0 c.requires.can c.loop-at.at c.loop-at-test.true
    on).1

pub still_words-at-requires-clause-ends : goal.still_words-at-requires-clause-ends
still_words-at-requires-clause-ends c on = (run_row c.args.work.now c.args.object.now c.args.heap.now c.args.pins.now
    c.args.cards.now c.args.last.now
    c.loop-at.heap c.loop-at.pins c.loop-at.cards c.loop-at.last c.args.run.offset c.args.run.count c.requires.run
    (offsets_from c.args.run.offset c.loop-at.at) c.loop-at.invariant.0 c.requires.can c.loop-at.at c.loop-at-test.true
    on).0
