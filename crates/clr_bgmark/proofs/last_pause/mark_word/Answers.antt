use Rattle.std.proofs.Common.{◌≡◌, ◌+◌, ◌*◌, ◌∙◌, refl, subst, arith, w64}
use Rattle.std.specs.Int.{trailing_zeros}
use Rattle.std.proofs.lemmas.Nat.Bits.{bit_at-trailing_zeros}
use Rattle.clr_mark.proofs.Rooting.{all_condemned}
use Rattle.clr_bgmark.specs.LastPause.{IsInWord}
use Rattle.clr_bgmark.proofs.EachMarked.{lowest_index, lowest_word, marking_begins, marking_ends, none_in_word}
use Rattle.clr_bgmark.proofs.EachMarked.{rest_only, word_goes}
use Rattle.clr_bgmark.proofs.last_pause.mark_word.Goals as goal

pub segment_near-k-requires : goal.segment_near-k-requires
segment_near-k-requires c =
    let rows = c.args.types.now in
    let h = c.args.heap.now in
    let place = c.args.place in
    let bits = c.args.bits in
    lowest_word rows h h c.requires.heap c.requires.held place bits bits c.requires.aligned c.requires.stands
    (marking_begins rows (IsInWord place bits) h) c.requires.some c.ranges.bits.fits (λ i e. e)
    (trailing_zeros w64 bits) refl

pub loop-rest-init : goal.loop-rest-init
loop-rest-init c = record {
  marking = marking_begins c.args.types.now (IsInWord c.args.place c.args.bits) c.args.heap.now;
  among = λ i e. e;
}

pub mark_at-requires-clause-word : goal.mark_at-requires-clause-word
mark_at-requires-clause-word c =
    let more = c.loop-rest-test.true in
    let rest = c.loop-rest.rest in
    let inv = c.loop-rest.invariant in
    lowest_word c.args.types.now c.args.heap.now c.loop-rest.heap c.requires.heap c.requires.held c.args.place
    c.args.bits rest c.requires.aligned c.requires.stands inv.marking (omega arith) c.loop-rest.auto.rest-fits.fits
    inv.among (trailing_zeros w64 rest) refl

pub mark_at-requires-clause-segment : goal.mark_at-requires-clause-segment
mark_at-requires-clause-segment c =
    let more = c.loop-rest-test.true in
    let rest = c.loop-rest.rest in
    let inv = c.loop-rest.invariant in
    let bits = c.args.bits in
    let rows = c.args.types.now in
    let h = c.args.heap.now in
    let place = c.args.place in
    let first = lowest_word rows h h c.requires.heap c.requires.held place bits bits c.requires.aligned
    c.requires.stands (marking_begins rows (IsInWord place bits) h) c.requires.some c.ranges.bits.fits (λ i e. e)
    (trailing_zeros w64 bits) refl in
    let few = (bit_at-trailing_zeros w64 bits c.requires.some c.ranges.bits.fits).0 in
    c.segment_near-k.ensures
    ∙ lowest_index rows h c.loop-rest.heap c.requires.heap c.requires.held place bits rest c.requires.aligned
    c.requires.stands inv.marking (omega arith) c.loop-rest.auto.rest-fits.fits inv.among (trailing_zeros w64 rest) refl
    (trailing_zeros w64 bits) few first

pub mark_at-requires-clause-condemned : goal.mark_at-requires-clause-condemned
mark_at-requires-clause-condemned c = all_condemned c.loop-rest.heap 2
    (c.args.place + 8 * trailing_zeros w64 c.loop-rest.rest) (omega arith)

pub loop-rest-preserved : goal.loop-rest-preserved
loop-rest-preserved c =
    let more = c.loop-rest-test.true in
    let rest = c.loop-rest.rest in
    let inv = c.loop-rest.invariant in
    let fits = c.loop-rest.auto.rest-fits.fits in
    record {
      marking = word_goes c.args.types.now c.args.heap.now c.loop-rest.heap c.requires.heap c.requires.held
          c.args.place c.args.bits rest c.requires.aligned c.requires.stands inv.marking (omega arith) fits inv.among
          (trailing_zeros w64 rest) refl c.mark_at.new.heap c.mark_at.ensures;
      among = λ i e. inv.among i (rest_only rest (omega arith) fits i e);
    }

pub returns : goal.returns
returns c =
    let done = c.loop-rest-test.false in
    let none : c.loop-rest.rest ≡ 0 = omega arith in
    marking_ends c.args.types.now (IsInWord c.args.place c.args.bits) (IsInWord c.args.place c.loop-rest.rest)
    c.args.heap.now c.loop-rest.heap c.loop-rest.invariant.marking
    (λ x i. none_in_word c.args.place x (subst (λ w. IsInWord c.args.place w x) none i))
