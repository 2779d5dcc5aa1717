use Rattle.std.proofs.Common.{◌≡◌, ◌+◌, ◌*◌, ◌<◌, ◌≤◌, length, ap, ◌∙◌, Some, subst, arith}
use Rattle.clr_types.specs.Types.{form_at, slot_kinds}
use Rattle.clr_heap.specs.Memories.{HasWord, memory_index}
use Rattle.clr_heap.specs.View.{frame}
use Rattle.clr_generations.proofs.BarrierLaw.{generation-most}
use Rattle.clr_view.proofs.Listed.{listed-known, listed-small}
use Rattle.clr_reloc.specs.Relocated.{rebounded}
use Rattle.clr_reloc.proofs.CardedSlots.{due_card, due_fits, due_index, due_next, due_passed, none_passed, refs_from}
use Rattle.clr_reloc.proofs.CardedSlots.{slots_all, slots_none, slots_same, word_card, word_fits, word_has, word_index}
use Rattle.clr_reloc.proofs.CardedSlots.{word_row, words_rest}
use Rattle.clr_reloc.proofs.ObjectLoops.{passed_all}
use Rattle.clr_reloc.proofs.RestingWords.{part_least}
use Rattle.clr_reloc.proofs.objects.relocate_carded_slots.Goals.{else-slot, then-slot}
use Rattle.clr_reloc.proofs.objects.relocate_carded_slots.Goals as goal

pub slot_count-count-requires-clause-known : goal.slot_count-count-requires-clause-known
slot_count-count-requires-clause-known c =
    let (view, now, vs, r, ahead) = c.requires.can in
    listed-known c.args.work.now.types.now view c.args.object.now.found r.0.begun.plan.overlaid.heap r.0.begun.plan.held
    ahead.left.listed

pub slot_count-count-requires-clause-size : goal.slot_count-count-requires-clause-size
slot_count-count-requires-clause-size c =
    let (view, now, vs, r, ahead) = c.requires.can in
    listed-small c.args.work.now.types.now view c.args.object.now.found r.0.begun.plan.overlaid.heap r.0.begun.plan.held
    ahead.left.listed

pub slot-first-requires-clause-known : goal.slot-first-requires-clause-known
slot-first-requires-clause-known c =
    let (view, now, vs, r, ahead) = c.requires.can in
    listed-known c.args.work.now.types.now view c.args.object.now.found r.0.begun.plan.overlaid.heap r.0.begun.plan.held
    ahead.left.listed

pub slot-first-requires-clause-size : goal.slot-first-requires-clause-size
slot-first-requires-clause-size c =
    let (view, now, vs, r, ahead) = c.requires.can in
    listed-small c.args.work.now.types.now view c.args.object.now.found r.0.begun.plan.overlaid.heap r.0.begun.plan.held
    ahead.left.listed

pub slot-slot-requires-clause-known : goal.slot-slot-requires-clause-known
slot-slot-requires-clause-known c =
    let (view, now, vs, r, ahead) = c.requires.can in
    listed-known c.args.work.now.types.now view c.args.object.now.found r.0.begun.plan.overlaid.heap r.0.begun.plan.held
    ahead.left.listed

pub slot-slot-requires-clause-size : goal.slot-slot-requires-clause-size
slot-slot-requires-clause-size c =
    let (view, now, vs, r, ahead) = c.requires.can in
    listed-small c.args.work.now.types.now view c.args.object.now.found r.0.begun.plan.overlaid.heap r.0.begun.plan.held
    ahead.left.listed

pub slot-first-requires-clause-below : goal.slot-first-requires-clause-below
slot-first-requires-clause-below c =
    let count = c.slot_count-count.ensures in
    let some = c.if-count-eq0.false in
    omega (arith, count, some)

pub returns-then-count-eq0-clause-gone : goal.returns-then-count-eq0-clause-gone
returns-then-count-eq0-clause-gone c view now vs r ahead =
    let none = slots_none c.args.work.now c.args.object.now c.args.heap.now c.args.pins.now c.args.cards.now
    c.args.last.now in
    let count = c.slot_count-count.ensures in
    let zero = c.if-count-eq0.true in
    let kinds = slot_kinds (form_at c.args.work.now.types.now c.args.object.now.found.type_id.0)
    c.args.object.now.found.len in
    let most : length kinds ≤ 0 = omega (arith, count, zero) in
    passed_all c.args.work.now c.args.object.now c.args.heap.now c.args.pins.now c.args.cards.now c.args.last.now
    c.args.heap.now c.args.pins.now c.args.cards.now c.args.last.now
    (refs_from (form_at c.args.work.now.types.now c.args.object.now.found.type_id.0) 0 none.done) none.passed
    (slots_all c.args.work.now c.args.object.now c.args.heap.now c.args.pins.now c.args.cards.now c.args.last.now
    c.args.heap.now c.args.pins.now c.args.cards.now c.args.last.now 0 none most) view now vs r ahead

pub returns-then-count-eq0-clause-beside : goal.returns-then-count-eq0-clause-beside
returns-then-count-eq0-clause-beside c =
    (slots_none c.args.work.now c.args.object.now c.args.heap.now c.args.pins.now c.args.cards.now
    c.args.last.now).passed.beside

pub loop-at-init : goal.loop-at-init
loop-at-init c = (
  slots_none c.args.work.now c.args.object.now c.args.heap.now c.args.pins.now c.args.cards.now c.args.last.now,
  omega arith,
)

pub overflow_mul-at : goal.overflow_mul-at
overflow_mul-at c =
    let count = c.slot_count-count.ensures in
    let below = c.loop-at-test.true in
    let fits = word_fits c.args.work.now c.args.object.now c.args.heap.now c.args.pins.now c.args.cards.now
    c.args.last.now c.loop-at.heap c.loop-at.pins c.loop-at.cards c.loop-at.last c.loop-at.at c.loop-at.invariant.0
    c.requires.words c.slot-first.result.offset c.slot-first.ensures.offset c.requires.can c.loop-at.at
    (omega (arith, count, below)) in
    let small = fits.0 in
    omega (arith, small)

pub overflow_add-first : goal.overflow_add-first
overflow_add-first c =
    let count = c.slot_count-count.ensures in
    let below = c.loop-at-test.true in
    let fits = word_fits c.args.work.now c.args.object.now c.args.heap.now c.args.pins.now c.args.cards.now
    c.args.last.now c.loop-at.heap c.loop-at.pins c.loop-at.cards c.loop-at.last c.loop-at.at c.loop-at.invariant.0
    c.requires.words c.slot-first.result.offset c.slot-first.ensures.offset c.requires.can c.loop-at.at
    (omega (arith, count, below)) in
    let small = fits.0 in
    omega (arith, small)

pub still_words-at-requires-clause-age : goal.still_words-at-requires-clause-age
still_words-at-requires-clause-age c =
    let most = generation-most (rebounded (frame c.args.heap.now) c.args.work.now.planned) c.args.object.now.to in
    let age = c.requires.placed.age in
    omega (arith, most, age)

pub still_words-at-requires-clause-fits : goal.still_words-at-requires-clause-fits
still_words-at-requires-clause-fits c j l =
    let count = c.slot_count-count.ensures in
    let fits = word_fits c.args.work.now c.args.object.now c.args.heap.now c.args.pins.now c.args.cards.now
    c.args.last.now c.loop-at.heap c.loop-at.pins c.loop-at.cards c.loop-at.last c.loop-at.at c.loop-at.invariant.0
    c.requires.words c.slot-first.result.offset c.slot-first.ensures.offset c.requires.can (c.loop-at.at + j)
    (omega (arith, count, l)) in
    let small = fits.0 in
    omega (arith, small)

pub still_words-at-requires-clause-goes : goal.still_words-at-requires-clause-goes
still_words-at-requires-clause-goes c =
    let count = c.slot_count-count.ensures in
    let below = c.loop-at-test.true in
    let fits = word_fits c.args.work.now c.args.object.now c.args.heap.now c.args.pins.now c.args.cards.now
    c.args.last.now c.loop-at.heap c.loop-at.pins c.loop-at.cards c.loop-at.last c.loop-at.at c.loop-at.invariant.0
    c.requires.words c.slot-first.result.offset c.slot-first.ensures.offset c.requires.can c.loop-at.at
    (omega (arith, count, below)) in
    fits.1

pub still_words-at-requires-clause-words : goal.still_words-at-requires-clause-words
still_words-at-requires-clause-words c j l =
    let count = c.slot_count-count.ensures in
    let place = c.args.object.now.found.place in
    let first = c.slot-first.result.offset in
    let at : place + (first + 8 * (c.loop-at.at + j)) ≡ place + (first + 8 * c.loop-at.at) + 8 * j = omega arith in
    subst (HasWord c.loop-at.heap.memories) at
    (word_has c.args.work.now c.args.object.now c.args.heap.now c.args.pins.now c.args.cards.now c.args.last.now
    c.loop-at.heap c.loop-at.pins c.loop-at.cards c.loop-at.last c.loop-at.at c.loop-at.invariant.0 c.requires.words
    c.slot-first.result.offset c.slot-first.ensures.offset c.requires.can (c.loop-at.at + j)
    (omega (arith, count, l)))

pub still_words-at-requires-clause-segment : goal.still_words-at-requires-clause-segment
still_words-at-requires-clause-segment c j l =
    let count = c.slot_count-count.ensures in
    let place = c.args.object.now.found.place in
    let first = c.slot-first.result.offset in
    let at : place + (first + 8 * (c.loop-at.at + j)) ≡ place + (first + 8 * c.loop-at.at) + 8 * j = omega arith in
    word_index c.args.work.now c.args.object.now c.args.heap.now c.args.pins.now c.args.cards.now c.args.last.now
    c.loop-at.heap c.loop-at.pins c.loop-at.cards c.loop-at.last c.loop-at.at c.loop-at.invariant.0 c.requires.words
    c.slot-first.result.offset c.slot-first.ensures.offset c.requires.can (c.loop-at.at + j) (omega (arith, count, l))
    c.requires.placed
    ∙ ap (memory_index c.loop-at.heap.memories) at

pub still_words-at-requires-clause-card : goal.still_words-at-requires-clause-card
still_words-at-requires-clause-card c =
    let count = c.slot_count-count.ensures in
    let below = c.loop-at-test.true in
    word_card c.args.work.now c.args.object.now c.args.heap.now c.args.pins.now c.args.cards.now c.args.last.now
    c.loop-at.heap c.loop-at.pins c.loop-at.cards c.loop-at.last c.loop-at.at c.loop-at.invariant.0 c.requires.words
    c.slot-first.result.offset c.slot-first.ensures.offset c.requires.can c.loop-at.at (omega (arith, count, below))
    c.requires.placed

pub still_words-at-requires-clause-row : goal.still_words-at-requires-clause-row
still_words-at-requires-clause-row c on =
    let count = c.slot_count-count.ensures in
    let below = c.loop-at-test.true in
    (word_row c.args.work.now c.args.object.now c.args.heap.now c.args.pins.now c.args.cards.now c.args.last.now
    c.loop-at.heap c.loop-at.pins c.loop-at.cards c.loop-at.last c.loop-at.at c.loop-at.invariant.0 c.requires.words
    c.slot-first.result.offset c.slot-first.ensures.offset c.requires.can c.loop-at.at (omega (arith, count, below))
    on c.slot_count-count.result count).1

pub still_words-at-requires-clause-ends : goal.still_words-at-requires-clause-ends
still_words-at-requires-clause-ends c on =
    let count = c.slot_count-count.ensures in
    let below = c.loop-at-test.true in
    (word_row c.args.work.now c.args.object.now c.args.heap.now c.args.pins.now c.args.cards.now c.args.last.now
    c.loop-at.heap c.loop-at.pins c.loop-at.cards c.loop-at.last c.loop-at.at c.loop-at.invariant.0 c.requires.words
    c.slot-first.result.offset c.slot-first.ensures.offset c.requires.can c.loop-at.at (omega (arith, count, below))
    on c.slot_count-count.result count).0

pub returns-then-at-count-clause-gone : goal.returns-then-at-count-clause-gone
returns-then-at-count-clause-gone c view now vs r ahead =
    let still = c.still_words-at.ensures in
    let within = still.within in
    let low = c.loop-at.invariant.1 in
    let count = c.slot_count-count.ensures in
    let s = words_rest c.args.work.now c.args.object.now c.args.heap.now c.args.pins.now c.args.cards.now
    c.args.last.now c.loop-at.heap c.loop-at.pins c.loop-at.cards c.loop-at.last c.requires.placed.age c.requires.few
    c.requires.words c.slot-first.result.offset c.slot-first.ensures.offset c.still_words-at.result c.loop-at.at
    c.loop-at.invariant.0 (omega (arith, within, low, count)) still.rest in
    let all = c.if-at-count.true in
    let kinds = slot_kinds (form_at c.args.work.now.types.now c.args.object.now.found.type_id.0)
    c.args.object.now.found.len in
    let most : length kinds ≤ c.loop-at.at + c.still_words-at.result = omega (arith, count, all) in
    passed_all c.args.work.now c.args.object.now c.args.heap.now c.args.pins.now c.args.cards.now c.args.last.now
    c.loop-at.heap c.loop-at.pins c.loop-at.cards c.loop-at.last
    (refs_from (form_at c.args.work.now.types.now c.args.object.now.found.type_id.0) 0 s.done) s.passed
    (slots_all c.args.work.now c.args.object.now c.args.heap.now c.args.pins.now c.args.cards.now c.args.last.now
    c.loop-at.heap c.loop-at.pins c.loop-at.cards c.loop-at.last (c.loop-at.at + c.still_words-at.result) s most) view
    now vs r ahead

pub returns-then-at-count-clause-beside : goal.returns-then-at-count-clause-beside
returns-then-at-count-clause-beside c =
    c.loop-at.invariant.0.passed.beside

pub slot-slot-requires-clause-below : goal.slot-slot-requires-clause-below
slot-slot-requires-clause-below c =
    let within = c.still_words-at.ensures.within in
    let low = c.loop-at.invariant.1 in
    let count = c.slot_count-count.ensures in
    let ne = c.if-at-count.false in
    omega (arith, within, low, count, ne)

pub relocate_slot-requires-clause-least : goal.relocate_slot-requires-clause-least
relocate_slot-requires-clause-least c =
    part_least c.args.work.now.g c.requires.few

pub relocate_slot-requires-clause-fits : goal.relocate_slot-requires-clause-fits
relocate_slot-requires-clause-fits c =
    let still = c.still_words-at.ensures in
    let within = still.within in
    let low = c.loop-at.invariant.1 in
    let count = c.slot_count-count.ensures in
    let s = words_rest c.args.work.now c.args.object.now c.args.heap.now c.args.pins.now c.args.cards.now
    c.args.last.now c.loop-at.heap c.loop-at.pins c.loop-at.cards c.loop-at.last c.requires.placed.age c.requires.few
    c.requires.words c.slot-first.result.offset c.slot-first.ensures.offset c.still_words-at.result c.loop-at.at
    c.loop-at.invariant.0 (omega (arith, within, low, count)) still.rest in
    let get = c.slot-slot.ensures.reference ∙ ap Some c.if-slot.true in
    (due_fits c.args.work.now c.args.object.now c.args.heap.now c.args.pins.now c.args.cards.now c.args.last.now
    c.loop-at.heap c.loop-at.pins c.loop-at.cards c.loop-at.last (c.loop-at.at + c.still_words-at.result) s get
    c.slot-slot.result.offset c.slot-slot.ensures.offset c.requires.can).0

pub relocate_slot-requires-clause-goes : goal.relocate_slot-requires-clause-goes
relocate_slot-requires-clause-goes c =
    let still = c.still_words-at.ensures in
    let within = still.within in
    let low = c.loop-at.invariant.1 in
    let count = c.slot_count-count.ensures in
    let s = words_rest c.args.work.now c.args.object.now c.args.heap.now c.args.pins.now c.args.cards.now
    c.args.last.now c.loop-at.heap c.loop-at.pins c.loop-at.cards c.loop-at.last c.requires.placed.age c.requires.few
    c.requires.words c.slot-first.result.offset c.slot-first.ensures.offset c.still_words-at.result c.loop-at.at
    c.loop-at.invariant.0 (omega (arith, within, low, count)) still.rest in
    let get = c.slot-slot.ensures.reference ∙ ap Some c.if-slot.true in
    (due_fits c.args.work.now c.args.object.now c.args.heap.now c.args.pins.now c.args.cards.now c.args.last.now
    c.loop-at.heap c.loop-at.pins c.loop-at.cards c.loop-at.last (c.loop-at.at + c.still_words-at.result) s get
    c.slot-slot.result.offset c.slot-slot.ensures.offset c.requires.can).1

pub relocate_slot-requires-clause-age : goal.relocate_slot-requires-clause-age
relocate_slot-requires-clause-age c =
    let most = generation-most (rebounded (frame c.args.heap.now) c.args.work.now.planned) c.args.object.now.to in
    let age = c.requires.placed.age in
    omega (arith, most, age)

pub relocate_slot-requires-clause-can : goal.relocate_slot-requires-clause-can
relocate_slot-requires-clause-can c =
    let still = c.still_words-at.ensures in
    let within = still.within in
    let low = c.loop-at.invariant.1 in
    let count = c.slot_count-count.ensures in
    let s = words_rest c.args.work.now c.args.object.now c.args.heap.now c.args.pins.now c.args.cards.now
    c.args.last.now c.loop-at.heap c.loop-at.pins c.loop-at.cards c.loop-at.last c.requires.placed.age c.requires.few
    c.requires.words c.slot-first.result.offset c.slot-first.ensures.offset c.still_words-at.result c.loop-at.at
    c.loop-at.invariant.0 (omega (arith, within, low, count)) still.rest in
    let get = c.slot-slot.ensures.reference ∙ ap Some c.if-slot.true in
    due_next c.args.work.now c.args.object.now c.args.heap.now c.args.pins.now c.args.cards.now c.args.last.now
    c.loop-at.heap c.loop-at.pins c.loop-at.cards c.loop-at.last (c.loop-at.at + c.still_words-at.result) s get
    c.slot-slot.result.offset c.slot-slot.ensures.offset c.requires.can

pub relocate_slot-requires-clause-segment : goal.relocate_slot-requires-clause-segment
relocate_slot-requires-clause-segment c =
    let still = c.still_words-at.ensures in
    let within = still.within in
    let low = c.loop-at.invariant.1 in
    let count = c.slot_count-count.ensures in
    let s = words_rest c.args.work.now c.args.object.now c.args.heap.now c.args.pins.now c.args.cards.now
    c.args.last.now c.loop-at.heap c.loop-at.pins c.loop-at.cards c.loop-at.last c.requires.placed.age c.requires.few
    c.requires.words c.slot-first.result.offset c.slot-first.ensures.offset c.still_words-at.result c.loop-at.at
    c.loop-at.invariant.0 (omega (arith, within, low, count)) still.rest in
    let get = c.slot-slot.ensures.reference ∙ ap Some c.if-slot.true in
    due_index c.args.work.now c.args.object.now c.args.heap.now c.args.pins.now c.args.cards.now c.args.last.now
    c.loop-at.heap c.loop-at.pins c.loop-at.cards c.loop-at.last (c.loop-at.at + c.still_words-at.result) s get
    c.slot-slot.result.offset c.slot-slot.ensures.offset c.requires.can c.requires.placed

pub relocate_slot-requires-clause-card : goal.relocate_slot-requires-clause-card
relocate_slot-requires-clause-card c =
    let still = c.still_words-at.ensures in
    let within = still.within in
    let low = c.loop-at.invariant.1 in
    let count = c.slot_count-count.ensures in
    let s = words_rest c.args.work.now c.args.object.now c.args.heap.now c.args.pins.now c.args.cards.now
    c.args.last.now c.loop-at.heap c.loop-at.pins c.loop-at.cards c.loop-at.last c.requires.placed.age c.requires.few
    c.requires.words c.slot-first.result.offset c.slot-first.ensures.offset c.still_words-at.result c.loop-at.at
    c.loop-at.invariant.0 (omega (arith, within, low, count)) still.rest in
    let get = c.slot-slot.ensures.reference ∙ ap Some c.if-slot.true in
    due_card c.args.work.now c.args.object.now c.args.heap.now c.args.pins.now c.args.cards.now c.args.last.now
    c.loop-at.heap c.loop-at.pins c.loop-at.cards c.loop-at.last (c.loop-at.at + c.still_words-at.result) s get
    c.slot-slot.result.offset c.slot-slot.ensures.offset c.requires.can c.requires.placed

pub loop-at-preserved : goal.loop-at-preserved
loop-at-preserved c =
    let still = c.still_words-at.ensures in
    let within = still.within in
    let low = c.loop-at.invariant.1 in
    let count = c.slot_count-count.ensures in
    let s = words_rest c.args.work.now c.args.object.now c.args.heap.now c.args.pins.now c.args.cards.now
    c.args.last.now c.loop-at.heap c.loop-at.pins c.loop-at.cards c.loop-at.last c.requires.placed.age c.requires.few
    c.requires.words c.slot-first.result.offset c.slot-first.ensures.offset c.still_words-at.result c.loop-at.at
    c.loop-at.invariant.0 (omega (arith, within, low, count)) still.rest in
    let ne = c.if-at-count.false in
    let at = c.loop-at.at + c.still_words-at.result in
    let less : at < c.slot_count-count.result = omega (arith, within, low, ne) in
    elim c.if-slot.branch [
      | then-slot w ↦
          let get = c.slot-slot.ensures.reference ∙ ap Some w.if-slot.true in
          let slot = w.relocate_slot in (
            slots_same c.args.work.now c.args.object.now c.args.heap.now c.args.pins.now c.args.cards.now
                c.args.last.now slot.new.heap c.if-slot.heap slot.new.pins c.if-slot.pins slot.new.cards
                c.if-slot.cards slot.new.last c.if-slot.last (at + 1) w.heap-is w.pins-is w.cards-is w.last-is
                (due_passed c.args.work.now c.args.object.now c.args.heap.now c.args.pins.now c.args.cards.now
                c.args.last.now c.loop-at.heap c.loop-at.pins c.loop-at.cards c.loop-at.last at s get
                c.slot-slot.result.offset c.slot-slot.ensures.offset c.requires.placed.age slot.new.heap slot.new.pins
                slot.new.cards slot.new.last slot.ensures.gone slot.ensures.beside),
            omega (arith, less),
          )
      | else-slot w ↦
          let get = c.slot-slot.ensures.reference ∙ ap Some w.if-slot.false in (
            slots_same c.args.work.now c.args.object.now c.args.heap.now c.args.pins.now c.args.cards.now
                c.args.last.now c.loop-at.heap c.if-slot.heap c.loop-at.pins c.if-slot.pins c.loop-at.cards
                c.if-slot.cards c.loop-at.last c.if-slot.last (at + 1) w.heap-is w.pins-is w.cards-is w.last-is
                (none_passed c.args.work.now c.args.object.now c.args.heap.now c.args.pins.now c.args.cards.now
                c.args.last.now c.loop-at.heap c.loop-at.pins c.loop-at.cards c.loop-at.last at s get),
            omega (arith, less),
          )
    ]

pub returns-clause-gone : goal.returns-clause-gone
returns-clause-gone c view now vs r ahead =
    let off = c.loop-at-test.false in
    let count = c.slot_count-count.ensures in
    let s = c.loop-at.invariant.0 in
    let kinds = slot_kinds (form_at c.args.work.now.types.now c.args.object.now.found.type_id.0)
    c.args.object.now.found.len in
    let most : length kinds ≤ c.loop-at.at = omega (arith, off, count) in
    passed_all c.args.work.now c.args.object.now c.args.heap.now c.args.pins.now c.args.cards.now c.args.last.now
    c.loop-at.heap c.loop-at.pins c.loop-at.cards c.loop-at.last
    (refs_from (form_at c.args.work.now.types.now c.args.object.now.found.type_id.0) 0 s.done) s.passed
    (slots_all c.args.work.now c.args.object.now c.args.heap.now c.args.pins.now c.args.cards.now c.args.last.now
    c.loop-at.heap c.loop-at.pins c.loop-at.cards c.loop-at.last c.loop-at.at s most) view now vs r ahead

pub returns-clause-beside : goal.returns-clause-beside
returns-clause-beside c =
    c.loop-at.invariant.0.passed.beside
