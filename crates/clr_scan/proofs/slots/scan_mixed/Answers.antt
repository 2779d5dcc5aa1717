use Rattle.std.proofs.Common.{ℕ, ◌+◌, length, if◌then◌else◌, ap, sym, ◌∙◌, arith}
use Rattle.clr_types.specs.Types.{form_at, slot_kinds}
use Rattle.clr_heap.specs.View.{frame}
use Rattle.clr_heap.proofs.Storing.{memory_index-shapes}
use Rattle.clr_view.proofs.Listed.{listed-known, listed-low, listed-small}
use Rattle.clr_generations.proofs.BarrierLaw.{generation-most}
use Rattle.clr_mark.specs.Marks.{is_condemned_place}
use Rattle.clr_mark.proofs.Graying.{same_condemned}
use Rattle.clr_scan.proofs.CardScans.{listed-on, older-above}
use Rattle.clr_scan.proofs.SlotScans.{slot_has, slot_index, slot_low, slot_named, slot_other, slot_word}
use Rattle.clr_scan.proofs.WordScans.{IsWordScan, word_followed, word_scan_starts, word_skipped, words_clear}
use Rattle.clr_scan.proofs.WordScans.{words_passed, words_silent, words_traced}
use Rattle.clr_scan.proofs.slots.scan_mixed.Goals.{then-slot, else-slot}
use Rattle.clr_scan.proofs.slots.scan_mixed.Goals as goal

pub slots_on-slots-requires-clause-known : goal.slots_on-slots-requires-clause-known
slots_on-slots-requires-clause-known c =
    listed-known c.args.types.now c.args.heap.now c.args.older.item c.requires.gray.closed.heap
    c.requires.gray.closed.held c.requires.listed

pub slots_on-slots-requires-clause-small : goal.slots_on-slots-requires-clause-small
slots_on-slots-requires-clause-small c =
    listed-small c.args.types.now c.args.heap.now c.args.older.item c.requires.gray.closed.heap
    c.requires.gray.closed.held c.requires.listed

pub slots_on-slots-requires-clause-low : goal.slots_on-slots-requires-clause-low
slots_on-slots-requires-clause-low c = let l =
    listed-low c.args.types.now c.args.heap.now c.args.older.item c.requires.gray.closed.heap
    c.requires.gray.closed.held c.requires.listed in omega (arith, l)

pub loop-at-init : goal.loop-at-init
loop-at-init c = (
  word_scan_starts c.args.types.now c.args.heap.now c.args.marker.now c.args.older.item c.slots_on-slots.result.first
      c.args.older.age c.slots_on-slots.result.from c.requires.gray,
  omega arith,
  c.slots_on-slots.ensures.order,
)

pub looked_for-bound-requires : goal.looked_for-bound-requires
looked_for-bound-requires c =
    let above = older-above c.args.heap.now c.args.marker.now.oldest c.args.older.item.place c.requires.older in
    let oldest = c.loop-at.invariant.0.scanned.oldest in
    let read = c.oldest.ensures in
    let age = c.requires.age in
    omega (arith, above, oldest, read, age)

pub pass_words-met-requires-clause-some : goal.pass_words-met-requires-clause-some
pass_words-met-requires-clause-some c = let above = c.looked_for-bound.ensures.above in omega (arith, above)

pub pass_words-met-requires-clause-most : goal.pass_words-met-requires-clause-most
pass_words-met-requires-clause-most c =
    let most = generation-most (frame c.args.heap.now) c.args.older.item.place in
    let age = c.requires.age in
    let below = c.looked_for-bound.ensures.most in
    omega (arith, most, age, below)

pub pass_words-met-requires-clause-fits : goal.pass_words-met-requires-clause-fits
pass_words-met-requires-clause-fits c j l =
    slot_low c.args.types.now c.args.older.item c.slots_on-slots.result.first c.slots_on-slots.ensures.slots j
    (let top = c.slots_on-slots.ensures.within in omega (arith, top, l)) c.args.heap.now
    c.requires.gray.closed.heap c.requires.gray.closed.held c.requires.listed c.requires.words

pub pass_words-met-requires-clause-words : goal.pass_words-met-requires-clause-words
pass_words-met-requires-clause-words c j l =
    let inv = c.loop-at.invariant.0 in
    slot_has c.args.types.now c.args.older.item c.slots_on-slots.result.first c.slots_on-slots.ensures.slots j
    (let top = c.slots_on-slots.ensures.within in omega (arith, top, l)) c.loop-at.heap
    inv.gray.closed.heap inv.gray.closed.held
    (listed-on c.args.types.now c.args.heap.now c.loop-at.heap c.args.older.item c.requires.gray.closed.heap
    c.requires.gray.closed.held inv.scanned.remarked c.requires.listed) c.requires.words

pub pass_words-met-requires-clause-segment : goal.pass_words-met-requires-clause-segment
pass_words-met-requires-clause-segment c j l =
    let inv = c.loop-at.invariant.0 in
    c.requires.segment
    ∙ sym (memory_index-shapes c.loop-at.heap.memories c.args.heap.now.memories c.args.older.item.place
    inv.scanned.remarked.shape.memories)
    ∙ slot_index c.args.types.now c.args.older.item c.slots_on-slots.result.first c.slots_on-slots.ensures.slots j
    (let top = c.slots_on-slots.ensures.within in omega (arith, top, l)) c.loop-at.heap
    inv.gray.closed.heap inv.gray.closed.held
    (listed-on c.args.types.now c.args.heap.now c.loop-at.heap c.args.older.item c.requires.gray.closed.heap
    c.requires.gray.closed.held inv.scanned.remarked c.requires.listed) c.requires.words

pub slot-slot-requires-clause-known : goal.slot-slot-requires-clause-known
slot-slot-requires-clause-known c =
    listed-known c.args.types.now c.args.heap.now c.args.older.item c.requires.gray.closed.heap
    c.requires.gray.closed.held c.requires.listed

pub slot-slot-requires-clause-size : goal.slot-slot-requires-clause-size
slot-slot-requires-clause-size c =
    listed-small c.args.types.now c.args.heap.now c.args.older.item c.requires.gray.closed.heap
    c.requires.gray.closed.held c.requires.listed

pub slot-slot-requires-clause-below : goal.slot-slot-requires-clause-below
slot-slot-requires-clause-below c =
    let top = c.slots_on-slots.ensures.within in
    let within = c.pass_words-met.ensures.within in
    let ne = c.if-met-slots.false in
    omega (arith, top, within, ne)

pub overflow_mul-met : goal.overflow_mul-met
overflow_mul-met c =
    let top = c.slots_on-slots.ensures.within in
    let within = c.pass_words-met.ensures.within in
    let ne = c.if-met-slots.false in
    let low = slot_low c.args.types.now c.args.older.item c.slots_on-slots.result.first c.slots_on-slots.ensures.slots
    c.pass_words-met.result (omega (arith, top, within, ne)) c.args.heap.now
    c.requires.gray.closed.heap c.requires.gray.closed.held c.requires.listed c.requires.words in
    omega (arith, low)

pub scan_slot-below-requires-clause-listed : goal.scan_slot-below-requires-clause-listed
scan_slot-below-requires-clause-listed c =
    listed-on c.args.types.now c.args.heap.now c.loop-at.heap c.args.older.item c.requires.gray.closed.heap
    c.requires.gray.closed.held c.loop-at.invariant.0.scanned.remarked c.requires.listed

pub scan_slot-below-requires-clause-reference : goal.scan_slot-below-requires-clause-reference
scan_slot-below-requires-clause-reference c =
    let top = c.slots_on-slots.ensures.within in
    let within = c.pass_words-met.ensures.within in
    let ne = c.if-met-slots.false in
    slot_named c.args.types.now c.args.older.item c.slots_on-slots.result.first c.slots_on-slots.ensures.slots
    c.pass_words-met.result (omega (arith, top, within, ne))
    c.slot-slot.result c.requires.object c.slot-slot.ensures.slot c.slot-slot.ensures.offset c.if-slot.true

pub scan_slot-below-requires-clause-segment : goal.scan_slot-below-requires-clause-segment
scan_slot-below-requires-clause-segment c = c.requires.segment
    ∙ sym (memory_index-shapes c.loop-at.heap.memories c.args.heap.now.memories c.args.older.item.place
    c.loop-at.invariant.0.scanned.remarked.shape.memories)

pub scan_slot-below-requires-clause-older : goal.scan_slot-below-requires-clause-older
scan_slot-below-requires-clause-older c =
    ap (λ (g : ℕ). is_condemned_place c.loop-at.heap g c.args.older.item.place) c.loop-at.invariant.0.scanned.oldest
    ∙ same_condemned c.args.types.now c.args.heap.now c.loop-at.heap c.args.marker.now.oldest c.args.older.item.place
    c.loop-at.invariant.0.scanned.remarked ∙ c.requires.older

-- the words before the one that was met are passed
met_scan : (c : goal.Joined-slot)
    → IsWordScan c.args.types.now c.args.heap.now c.loop-at.heap c.args.marker.now c.loop-at.marker
    c.args.older.item c.slots_on-slots.result.first c.args.older.age c.slots_on-slots.result.from
    c.pass_words-met.result c.loop-at.younger
met_scan c =
    words_passed c.args.types.now c.args.heap.now c.loop-at.heap c.args.marker.now c.loop-at.marker
    c.args.older.item c.slots_on-slots.result.first c.args.older.age c.slots_on-slots.result.from
    c.loop-at.at c.loop-at.younger c.requires.gray.closed c.requires.listed
    c.loop-at.invariant.0 c.pass_words-met.result
    c.looked_for-bound.result (c.looked_for-bound.ensures.bound
    ∙ ap (λ (g : ℕ). if c.loop-at.younger then g + 1 else c.args.older.age) c.oldest.ensures)
    (let above = c.looked_for-bound.ensures.above in let oldest = c.oldest.ensures in omega (arith, above, oldest))
    c.pass_words-met.ensures.quiet c.pass_words-met.ensures.from

-- and that one is followed where it is a reference
next_scan : (c : goal.Joined-slot)
    → IsWordScan c.args.types.now c.args.heap.now c.if-slot.heap c.args.marker.now c.if-slot.marker
    c.args.older.item c.slots_on-slots.result.first c.args.older.age c.slots_on-slots.result.from
    (c.pass_words-met.result + 1) c.if-slot.younger
next_scan c =
    let top = c.slots_on-slots.ensures.within in
    let within = c.pass_words-met.ensures.within in
    let ne = c.if-met-slots.false in
    let low = c.loop-at.invariant.1 in
    let from = c.pass_words-met.ensures.from in
    elim c.if-slot.branch [
      | then-slot w ↦
          let scan = w.scan_slot-below.ensures in
          rw (w.heap-is, w.marker-is, w.younger-is)
          (word_followed c.args.types.now c.args.heap.now c.loop-at.heap c.args.marker.now c.loop-at.marker
          c.args.older.item c.slots_on-slots.result.first c.args.older.age c.slots_on-slots.result.from
          c.pass_words-met.result c.loop-at.younger c.requires.gray.closed c.requires.listed
          (met_scan c)
          (slot_named c.args.types.now c.args.older.item c.slots_on-slots.result.first c.slots_on-slots.ensures.slots
          c.pass_words-met.result (omega (arith, top, within, ne))
          c.slot-slot.result c.requires.object c.slot-slot.ensures.slot c.slot-slot.ensures.offset w.if-slot.true)
          w.scan_slot-below.new.heap w.scan_slot-below.new.marker w.scan_slot-below.result scan.gray scan.scanned
          scan.traced scan.younger (omega (arith, low, from)))
      | else-slot w ↦
          rw (w.heap-is, w.marker-is, w.younger-is)
          (word_skipped c.args.types.now c.args.heap.now c.loop-at.heap c.args.marker.now c.loop-at.marker
          c.args.older.item c.slots_on-slots.result.first c.args.older.age c.slots_on-slots.result.from
          c.pass_words-met.result c.loop-at.younger c.requires.gray.closed c.requires.listed
          (met_scan c)
          (slot_other c.args.types.now c.args.older.item c.slots_on-slots.result.first c.slots_on-slots.ensures.slots
          c.pass_words-met.result (omega (arith, top, within, ne))
          c.slot-slot.result.reference c.slot-slot.ensures.reference w.if-slot.false))
    ]

pub loop-at-preserved : goal.loop-at-preserved
loop-at-preserved c =
    let low = c.loop-at.invariant.1 in
    let from = c.pass_words-met.ensures.from in
    let within = c.pass_words-met.ensures.within in
    let ne = c.if-met-slots.false in (next_scan c, omega (arith, low, from), omega (arith, within, ne))

-- all words are passed
whole_scan : (c : goal.Then-met-slots)
    → IsWordScan c.args.types.now c.args.heap.now c.loop-at.heap c.args.marker.now c.loop-at.marker
    c.args.older.item c.slots_on-slots.result.first c.args.older.age c.slots_on-slots.result.from
    c.pass_words-met.result c.loop-at.younger
whole_scan c =
    words_passed c.args.types.now c.args.heap.now c.loop-at.heap c.args.marker.now c.loop-at.marker
    c.args.older.item c.slots_on-slots.result.first c.args.older.age c.slots_on-slots.result.from
    c.loop-at.at c.loop-at.younger c.requires.gray.closed c.requires.listed
    c.loop-at.invariant.0 c.pass_words-met.result
    c.looked_for-bound.result (c.looked_for-bound.ensures.bound
    ∙ ap (λ (g : ℕ). if c.loop-at.younger then g + 1 else c.args.older.age) c.oldest.ensures)
    (let above = c.looked_for-bound.ensures.above in let oldest = c.oldest.ensures in omega (arith, above, oldest))
    c.pass_words-met.ensures.quiet c.pass_words-met.ensures.from

pub returns-then-met-slots-clause-traced : goal.returns-then-met-slots-clause-traced
returns-then-met-slots-clause-traced c =
    words_traced c.args.types.now c.args.heap.now c.loop-at.heap c.args.marker.now c.loop-at.marker
    c.args.older.item c.slots_on-slots.result.first c.args.older.age c.slots_on-slots.result.from
    c.pass_words-met.result c.loop-at.younger c.requires.gray.closed c.requires.listed
    (whole_scan c)
    (length (slot_kinds (form_at c.args.types.now c.args.older.item.type_id.0) c.args.older.item.len))
    c.slots_on-slots.result.to c.args.lo c.args.hi
    (slot_word c.args.types.now c.args.older.item c.slots_on-slots.result.first c.slots_on-slots.ensures.slots)
    (let met = c.if-met-slots.true in omega (arith, met)) c.slots_on-slots.ensures.below c.slots_on-slots.ensures.above

pub returns-then-met-slots-clause-silent : goal.returns-then-met-slots-clause-silent
returns-then-met-slots-clause-silent c all =
    let top = c.pass_words-met.ensures.within in
    words_silent c.args.types.now c.args.heap.now c.loop-at.heap c.args.marker.now c.loop-at.marker
    c.args.older.item c.slots_on-slots.result.first c.args.older.age c.slots_on-slots.result.from
    c.pass_words-met.result c.loop-at.younger c.requires.gray.closed c.requires.listed
    (whole_scan c)
    c.args.lo c.args.hi all (λ s low high. c.slots_on-slots.ensures.inside s low (omega (arith, top, high)))

pub returns-then-met-slots-clause-clear : goal.returns-then-met-slots-clause-clear
returns-then-met-slots-clause-clear c =
    words_clear c.args.types.now c.args.heap.now c.loop-at.heap c.args.marker.now c.loop-at.marker
    c.args.older.item c.slots_on-slots.result.first c.args.older.age c.slots_on-slots.result.from
    c.pass_words-met.result c.loop-at.younger c.requires.gray.closed c.requires.listed
    (whole_scan c)
    (length (slot_kinds (form_at c.args.types.now c.args.older.item.type_id.0) c.args.older.item.len))
    c.slots_on-slots.result.to c.args.lo c.args.hi
    (slot_word c.args.types.now c.args.older.item c.slots_on-slots.result.first c.slots_on-slots.ensures.slots)
    (let met = c.if-met-slots.true in omega (arith, met)) c.slots_on-slots.ensures.below c.slots_on-slots.ensures.above

pub returns-clause-traced : goal.returns-clause-traced
returns-clause-traced c =
    words_traced c.args.types.now c.args.heap.now c.loop-at.heap c.args.marker.now c.loop-at.marker
    c.args.older.item c.slots_on-slots.result.first c.args.older.age c.slots_on-slots.result.from
    c.loop-at.at c.loop-at.younger c.requires.gray.closed c.requires.listed
    c.loop-at.invariant.0
    (length (slot_kinds (form_at c.args.types.now c.args.older.item.type_id.0) c.args.older.item.len))
    c.slots_on-slots.result.to c.args.lo c.args.hi
    (slot_word c.args.types.now c.args.older.item c.slots_on-slots.result.first c.slots_on-slots.ensures.slots)
    c.loop-at-test.false c.slots_on-slots.ensures.below c.slots_on-slots.ensures.above

pub returns-clause-silent : goal.returns-clause-silent
returns-clause-silent c all =
    let top = c.loop-at.invariant.2 in
    words_silent c.args.types.now c.args.heap.now c.loop-at.heap c.args.marker.now c.loop-at.marker
    c.args.older.item c.slots_on-slots.result.first c.args.older.age c.slots_on-slots.result.from
    c.loop-at.at c.loop-at.younger c.requires.gray.closed c.requires.listed
    c.loop-at.invariant.0
    c.args.lo c.args.hi all (λ s low high. c.slots_on-slots.ensures.inside s low (omega (arith, top, high)))

pub returns-clause-clear : goal.returns-clause-clear
returns-clause-clear c =
    words_clear c.args.types.now c.args.heap.now c.loop-at.heap c.args.marker.now c.loop-at.marker
    c.args.older.item c.slots_on-slots.result.first c.args.older.age c.slots_on-slots.result.from
    c.loop-at.at c.loop-at.younger c.requires.gray.closed c.requires.listed
    c.loop-at.invariant.0
    (length (slot_kinds (form_at c.args.types.now c.args.older.item.type_id.0) c.args.older.item.len))
    c.slots_on-slots.result.to c.args.lo c.args.hi
    (slot_word c.args.types.now c.args.older.item c.slots_on-slots.result.first c.slots_on-slots.ensures.slots)
    c.loop-at-test.false c.slots_on-slots.ensures.below c.slots_on-slots.ensures.above
