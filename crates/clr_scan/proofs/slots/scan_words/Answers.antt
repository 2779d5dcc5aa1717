use Rattle.std.proofs.Common.{ℕ, ◌+◌, ◌*◌, if◌then◌else◌, ap, sym, ◌∙◌, arith}
use Rattle.clr_heap.specs.View.{frame}
use Rattle.clr_heap.proofs.Storing.{memory_index-shapes}
use Rattle.clr_generations.proofs.BarrierLaw.{generation-most}
use Rattle.clr_mark.specs.Marks.{is_condemned_place}
use Rattle.clr_scan.proofs.CardScans.{listed-on, older-above, ref_low, scanned-refl}
use Rattle.clr_mark.proofs.Graying.{same_condemned}
use Rattle.clr_scan.proofs.WordScans.{IsWordScan, no_words, word_followed, word_has, word_index, word_low}
use Rattle.clr_scan.proofs.WordScans.{word_number, word_reference, word_scan_starts, words_clear, words_passed}
use Rattle.clr_scan.proofs.WordScans.{words_silent, words_traced}
use Rattle.clr_scan.proofs.slots.scan_words.Goals.{After-scan_together}
use Rattle.clr_scan.proofs.slots.scan_words.Goals as goal

pub returns-then-run-eq0-clause-scanned : goal.returns-then-run-eq0-clause-scanned
returns-then-run-eq0-clause-scanned c = scanned-refl c.args.types.now c.args.heap.now c.args.marker.now

pub returns-then-run-eq0-clause-traced : goal.returns-then-run-eq0-clause-traced
returns-then-run-eq0-clause-traced c a r low high ne near =
    absurd (no_words c.args.types.now c.args.older.item c.args.run.offset c.args.run.count a c.requires.run
    c.if-run-eq0.true r)

pub returns-then-run-eq0-clause-clear : goal.returns-then-run-eq0-clause-clear
returns-then-run-eq0-clause-clear c e a r low high ne less =
    absurd (no_words c.args.types.now c.args.older.item c.args.run.offset c.args.run.count a c.requires.run
    c.if-run-eq0.true r)

pub overflow_add-first : goal.overflow_add-first
overflow_add-first c =
    let r = word_reference c.args.types.now c.args.older.item c.args.run.offset c.args.run.count 0 c.requires.object
    c.requires.run (let some = c.if-run-eq0.false in omega (arith, some)) in
    let low = ref_low c.args.types.now c.args.heap.now c.requires.gray.closed c.args.older.item c.requires.listed
    (c.args.older.item.place + c.args.run.offset + 8 * 0) r in
    omega (arith, low)

pub scan_together-requires-clause-references : goal.scan_together-requires-clause-references
scan_together-requires-clause-references c j l =
    let top = c.min-to.ensures in
    word_reference c.args.types.now c.args.older.item c.args.run.offset c.args.run.count j c.requires.object
    c.requires.run (omega (arith, top, l))

-- all words are looked at together
together_scan : (c : After-scan_together)
    → IsWordScan c.args.types.now c.args.heap.now c.scan_together.new.heap c.args.marker.now
    c.scan_together.new.marker c.args.older.item (c.args.older.item.place + c.args.run.offset) c.args.older.age
    c.min-from.result c.min-to.result c.scan_together.result
together_scan c = record {
  gray = c.scan_together.ensures.gray;
  scanned = c.scan_together.ensures.scanned;
  traced = λ s l b _. c.scan_together.ensures.traced s l (omega (arith, b));
  clear = λ none s l b _. c.scan_together.ensures.clear none s l (omega (arith, b));
  silent = λ all. c.scan_together.ensures.silent (λ s l b.
      all s l (omega (arith, b)) (word_reference c.args.types.now c.args.older.item c.args.run.offset c.args.run.count s
      c.requires.object c.requires.run (let top = c.min-to.ensures in omega (arith, top, b))));
}

pub returns-then-to-from-ge-MANY-clause-traced : goal.returns-then-to-from-ge-MANY-clause-traced
returns-then-to-from-ge-MANY-clause-traced c =
    words_traced c.args.types.now c.args.heap.now c.scan_together.new.heap c.args.marker.now
    c.scan_together.new.marker c.args.older.item (c.args.older.item.place + c.args.run.offset) c.args.older.age
    c.min-from.result c.min-to.result c.scan_together.result c.requires.gray.closed c.requires.listed
    (together_scan c)
    c.args.run.count c.min-to.result c.args.lo c.args.hi
    (word_number c.args.types.now c.args.older.item c.args.run.offset c.args.run.count c.requires.run)
    (omega arith)
    (λ t l. c.words_to-2.ensures.below t (let from = c.min-from.ensures in omega (arith, from, l)))
    (λ t l below. c.words_to.ensures.above t (let to = c.min-to.ensures in omega (arith, to, l, below)))

pub returns-then-to-from-ge-MANY-clause-silent : goal.returns-then-to-from-ge-MANY-clause-silent
returns-then-to-from-ge-MANY-clause-silent c all =
    let to = c.min-to.ensures in
    let from = c.min-from.ensures in
    words_silent c.args.types.now c.args.heap.now c.scan_together.new.heap c.args.marker.now
    c.scan_together.new.marker c.args.older.item (c.args.older.item.place + c.args.run.offset) c.args.older.age
    c.min-from.result c.min-to.result c.scan_together.result c.requires.gray.closed c.requires.listed
    (together_scan c)
    c.args.lo c.args.hi all (λ s low high. (
      c.words_to-2.ensures.above s (omega (arith, from, to, low, high)),
      c.words_to.ensures.below s (omega (arith, to, high)),
    ))

pub returns-then-to-from-ge-MANY-clause-clear : goal.returns-then-to-from-ge-MANY-clause-clear
returns-then-to-from-ge-MANY-clause-clear c =
    words_clear c.args.types.now c.args.heap.now c.scan_together.new.heap c.args.marker.now
    c.scan_together.new.marker c.args.older.item (c.args.older.item.place + c.args.run.offset) c.args.older.age
    c.min-from.result c.min-to.result c.scan_together.result c.requires.gray.closed c.requires.listed
    (together_scan c)
    c.args.run.count c.min-to.result c.args.lo c.args.hi
    (word_number c.args.types.now c.args.older.item c.args.run.offset c.args.run.count c.requires.run)
    (omega arith)
    (λ t l. c.words_to-2.ensures.below t (let from = c.min-from.ensures in omega (arith, from, l)))
    (λ t l below. c.words_to.ensures.above t (let to = c.min-to.ensures in omega (arith, to, l, below)))

pub loop-at-init : goal.loop-at-init
loop-at-init c = (
  word_scan_starts c.args.types.now c.args.heap.now c.args.marker.now c.args.older.item
      (c.args.older.item.place + c.args.run.offset) c.args.older.age c.min-from.result c.requires.gray,
  omega arith,
  let from = c.min-from.ensures in omega (arith, from),
)

pub looked_for-bound-requires : goal.looked_for-bound-requires
looked_for-bound-requires c =
    let above = older-above c.args.heap.now c.args.marker.now.oldest c.args.older.item.place c.requires.older in
    let oldest = c.loop-at.invariant.0.scanned.oldest in
    let read = c.oldest.ensures in
    let age = c.requires.age in
    omega (arith, above, oldest, read, age)

pub pass_words-met-requires-clause-some : goal.pass_words-met-requires-clause-some
pass_words-met-requires-clause-some c = let above = c.looked_for-bound.ensures.above in omega (arith, above)

pub pass_words-met-requires-clause-most : goal.pass_words-met-requires-clause-most
pass_words-met-requires-clause-most c =
    let most = generation-most (frame c.args.heap.now) c.args.older.item.place in
    let age = c.requires.age in
    let below = c.looked_for-bound.ensures.most in
    omega (arith, most, age, below)

pub pass_words-met-requires-clause-fits : goal.pass_words-met-requires-clause-fits
pass_words-met-requires-clause-fits c j l =
    let top = c.min-to.ensures in
    word_low c.args.types.now c.args.heap.now c.requires.gray.closed c.args.older.item c.requires.listed
    c.args.run.offset c.args.run.count c.requires.object c.requires.run j (omega (arith, top, l))

pub pass_words-met-requires-clause-words : goal.pass_words-met-requires-clause-words
pass_words-met-requires-clause-words c j l =
    let inv = c.loop-at.invariant.0 in
    let top = c.min-to.ensures in
    word_has c.args.types.now c.loop-at.heap inv.gray.closed c.args.older.item
    (listed-on c.args.types.now c.args.heap.now c.loop-at.heap c.args.older.item c.requires.gray.closed.heap
    c.requires.gray.closed.held inv.scanned.remarked c.requires.listed)
    c.args.run.offset c.args.run.count c.requires.object c.requires.run j (omega (arith, top, l))

pub pass_words-met-requires-clause-segment : goal.pass_words-met-requires-clause-segment
pass_words-met-requires-clause-segment c j l =
    let inv = c.loop-at.invariant.0 in
    let top = c.min-to.ensures in
    c.requires.segment
    ∙ sym (memory_index-shapes c.loop-at.heap.memories c.args.heap.now.memories c.args.older.item.place
    inv.scanned.remarked.shape.memories)
    ∙ word_index c.args.types.now c.loop-at.heap inv.gray.closed c.args.older.item
    (listed-on c.args.types.now c.args.heap.now c.loop-at.heap c.args.older.item c.requires.gray.closed.heap
    c.requires.gray.closed.held inv.scanned.remarked c.requires.listed)
    c.args.run.offset c.args.run.count c.requires.object c.requires.run j (omega (arith, top, l))

pub overflow_mul-met : goal.overflow_mul-met
overflow_mul-met c =
    let top = c.min-to.ensures in
    let within = c.pass_words-met.ensures.within in
    let ne = c.if-met-to.false in
    let low = word_low c.args.types.now c.args.heap.now c.requires.gray.closed c.args.older.item c.requires.listed
    c.args.run.offset c.args.run.count c.requires.object c.requires.run c.pass_words-met.result
    (omega (arith, top, within, ne)) in
    omega (arith, low)

pub scan_slot-below-requires-clause-listed : goal.scan_slot-below-requires-clause-listed
scan_slot-below-requires-clause-listed c =
    listed-on c.args.types.now c.args.heap.now c.loop-at.heap c.args.older.item c.requires.gray.closed.heap
    c.requires.gray.closed.held c.loop-at.invariant.0.scanned.remarked c.requires.listed

pub scan_slot-below-requires-clause-reference : goal.scan_slot-below-requires-clause-reference
scan_slot-below-requires-clause-reference c =
    word_reference c.args.types.now c.args.older.item c.args.run.offset c.args.run.count c.pass_words-met.result
    c.requires.object c.requires.run
    (let top = c.min-to.ensures in let within = c.pass_words-met.ensures.within in let ne = c.if-met-to.false in
    omega (arith, top, within, ne))

pub scan_slot-below-requires-clause-segment : goal.scan_slot-below-requires-clause-segment
scan_slot-below-requires-clause-segment c = c.requires.segment
    ∙ sym (memory_index-shapes c.loop-at.heap.memories c.args.heap.now.memories c.args.older.item.place
    c.loop-at.invariant.0.scanned.remarked.shape.memories)

pub scan_slot-below-requires-clause-older : goal.scan_slot-below-requires-clause-older
scan_slot-below-requires-clause-older c =
    ap (λ (g : ℕ). is_condemned_place c.loop-at.heap g c.args.older.item.place) c.loop-at.invariant.0.scanned.oldest
    ∙ same_condemned c.args.types.now c.args.heap.now c.loop-at.heap c.args.marker.now.oldest c.args.older.item.place
    c.loop-at.invariant.0.scanned.remarked ∙ c.requires.older

-- the words before the one that was met are passed
met_scan : (c : goal.After-scan_slot-below)
    → IsWordScan c.args.types.now c.args.heap.now c.loop-at.heap c.args.marker.now c.loop-at.marker
    c.args.older.item (c.args.older.item.place + c.args.run.offset) c.args.older.age c.min-from.result
    c.pass_words-met.result c.loop-at.younger
met_scan c =
    words_passed c.args.types.now c.args.heap.now c.loop-at.heap c.args.marker.now c.loop-at.marker
    c.args.older.item (c.args.older.item.place + c.args.run.offset) c.args.older.age c.min-from.result
    c.loop-at.at c.loop-at.younger c.requires.gray.closed c.requires.listed
    c.loop-at.invariant.0 c.pass_words-met.result
    c.looked_for-bound.result (c.looked_for-bound.ensures.bound
    ∙ ap (λ (g : ℕ). if c.loop-at.younger then g + 1 else c.args.older.age) c.oldest.ensures)
    (let above = c.looked_for-bound.ensures.above in let oldest = c.oldest.ensures in omega (arith, above, oldest))
    c.pass_words-met.ensures.quiet c.pass_words-met.ensures.from

pub loop-at-preserved : goal.loop-at-preserved
loop-at-preserved c =
    let scan = c.scan_slot-below.ensures in
    let low = c.loop-at.invariant.1 in
    let from = c.pass_words-met.ensures.from in
    let within = c.pass_words-met.ensures.within in
    let ne = c.if-met-to.false in (
      word_followed c.args.types.now c.args.heap.now c.loop-at.heap c.args.marker.now c.loop-at.marker
          c.args.older.item (c.args.older.item.place + c.args.run.offset) c.args.older.age c.min-from.result
          c.pass_words-met.result c.loop-at.younger c.requires.gray.closed c.requires.listed
          (met_scan c)
          (word_reference c.args.types.now c.args.older.item c.args.run.offset c.args.run.count c.pass_words-met.result
          c.requires.object c.requires.run (let top = c.min-to.ensures in omega (arith, top, within, ne)))
          c.scan_slot-below.new.heap c.scan_slot-below.new.marker c.scan_slot-below.result scan.gray scan.scanned
          scan.traced scan.younger (omega (arith, low, from)),
      omega (arith, low, from),
      omega (arith, within, ne),
    )

-- all words are passed
whole_scan : (c : goal.Then-met-to)
    → IsWordScan c.args.types.now c.args.heap.now c.loop-at.heap c.args.marker.now c.loop-at.marker
    c.args.older.item (c.args.older.item.place + c.args.run.offset) c.args.older.age c.min-from.result
    c.pass_words-met.result c.loop-at.younger
whole_scan c =
    words_passed c.args.types.now c.args.heap.now c.loop-at.heap c.args.marker.now c.loop-at.marker
    c.args.older.item (c.args.older.item.place + c.args.run.offset) c.args.older.age c.min-from.result
    c.loop-at.at c.loop-at.younger c.requires.gray.closed c.requires.listed
    c.loop-at.invariant.0 c.pass_words-met.result
    c.looked_for-bound.result (c.looked_for-bound.ensures.bound
    ∙ ap (λ (g : ℕ). if c.loop-at.younger then g + 1 else c.args.older.age) c.oldest.ensures)
    (let above = c.looked_for-bound.ensures.above in let oldest = c.oldest.ensures in omega (arith, above, oldest))
    c.pass_words-met.ensures.quiet c.pass_words-met.ensures.from

pub returns-then-met-to-clause-traced : goal.returns-then-met-to-clause-traced
returns-then-met-to-clause-traced c =
    words_traced c.args.types.now c.args.heap.now c.loop-at.heap c.args.marker.now c.loop-at.marker
    c.args.older.item (c.args.older.item.place + c.args.run.offset) c.args.older.age c.min-from.result
    c.pass_words-met.result c.loop-at.younger c.requires.gray.closed c.requires.listed
    (whole_scan c)
    c.args.run.count c.min-to.result c.args.lo c.args.hi
    (word_number c.args.types.now c.args.older.item c.args.run.offset c.args.run.count c.requires.run)
    (let met = c.if-met-to.true in omega (arith, met))
    (λ t l. c.words_to-2.ensures.below t (let from = c.min-from.ensures in omega (arith, from, l)))
    (λ t l below. c.words_to.ensures.above t (let to = c.min-to.ensures in omega (arith, to, l, below)))

pub returns-then-met-to-clause-silent : goal.returns-then-met-to-clause-silent
returns-then-met-to-clause-silent c all =
    let to = c.min-to.ensures in
    let from = c.min-from.ensures in
    let top = c.pass_words-met.ensures.within in
    words_silent c.args.types.now c.args.heap.now c.loop-at.heap c.args.marker.now c.loop-at.marker
    c.args.older.item (c.args.older.item.place + c.args.run.offset) c.args.older.age c.min-from.result
    c.pass_words-met.result c.loop-at.younger c.requires.gray.closed c.requires.listed
    (whole_scan c)
    c.args.lo c.args.hi all (λ s low high. (
      c.words_to-2.ensures.above s (omega (arith, from, to, low, high, top)),
      c.words_to.ensures.below s (omega (arith, to, high, top)),
    ))

pub returns-then-met-to-clause-clear : goal.returns-then-met-to-clause-clear
returns-then-met-to-clause-clear c =
    words_clear c.args.types.now c.args.heap.now c.loop-at.heap c.args.marker.now c.loop-at.marker
    c.args.older.item (c.args.older.item.place + c.args.run.offset) c.args.older.age c.min-from.result
    c.pass_words-met.result c.loop-at.younger c.requires.gray.closed c.requires.listed
    (whole_scan c)
    c.args.run.count c.min-to.result c.args.lo c.args.hi
    (word_number c.args.types.now c.args.older.item c.args.run.offset c.args.run.count c.requires.run)
    (let met = c.if-met-to.true in omega (arith, met))
    (λ t l. c.words_to-2.ensures.below t (let from = c.min-from.ensures in omega (arith, from, l)))
    (λ t l below. c.words_to.ensures.above t (let to = c.min-to.ensures in omega (arith, to, l, below)))

pub returns-clause-traced : goal.returns-clause-traced
returns-clause-traced c =
    words_traced c.args.types.now c.args.heap.now c.loop-at.heap c.args.marker.now c.loop-at.marker
    c.args.older.item (c.args.older.item.place + c.args.run.offset) c.args.older.age c.min-from.result
    c.loop-at.at c.loop-at.younger c.requires.gray.closed c.requires.listed
    c.loop-at.invariant.0
    c.args.run.count c.min-to.result c.args.lo c.args.hi
    (word_number c.args.types.now c.args.older.item c.args.run.offset c.args.run.count c.requires.run)
    c.loop-at-test.false
    (λ t l. c.words_to-2.ensures.below t (let from = c.min-from.ensures in omega (arith, from, l)))
    (λ t l below. c.words_to.ensures.above t (let to = c.min-to.ensures in omega (arith, to, l, below)))

pub returns-clause-silent : goal.returns-clause-silent
returns-clause-silent c all =
    let to = c.min-to.ensures in
    let from = c.min-from.ensures in
    let top = c.loop-at.invariant.2 in
    words_silent c.args.types.now c.args.heap.now c.loop-at.heap c.args.marker.now c.loop-at.marker
    c.args.older.item (c.args.older.item.place + c.args.run.offset) c.args.older.age c.min-from.result
    c.loop-at.at c.loop-at.younger c.requires.gray.closed c.requires.listed
    c.loop-at.invariant.0
    c.args.lo c.args.hi all (λ s low high. (
      c.words_to-2.ensures.above s (omega (arith, from, to, low, high, top)),
      c.words_to.ensures.below s (omega (arith, to, high, top)),
    ))

pub returns-clause-clear : goal.returns-clause-clear
returns-clause-clear c =
    words_clear c.args.types.now c.args.heap.now c.loop-at.heap c.args.marker.now c.loop-at.marker
    c.args.older.item (c.args.older.item.place + c.args.run.offset) c.args.older.age c.min-from.result
    c.loop-at.at c.loop-at.younger c.requires.gray.closed c.requires.listed
    c.loop-at.invariant.0
    c.args.run.count c.min-to.result c.args.lo c.args.hi
    (word_number c.args.types.now c.args.older.item c.args.run.offset c.args.run.count c.requires.run)
    c.loop-at-test.false
    (λ t l. c.words_to-2.ensures.below t (let from = c.min-from.ensures in omega (arith, from, l)))
    (λ t l below. c.words_to.ensures.above t (let to = c.min-to.ensures in omega (arith, to, l, below)))
