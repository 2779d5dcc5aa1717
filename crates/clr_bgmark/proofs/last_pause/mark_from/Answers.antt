use Rattle.std.proofs.Common.{◌≡◌, ℕ, ◌+◌, ◌-◌, ◌/◌, ◌∙◌, ap, sym, subst, arith}
use Rattle.clr_heap.specs.View.{HeapView}
use Rattle.clr_bgmark.specs.LastPause.{IsInWord, IsMarkedBehind}
use Rattle.clr_bgmark.proofs.EachMarked.{IsMarking, marking_begins, marking_ends, marking_goes, marking_heap}
use Rattle.clr_bgmark.proofs.EachMarked.{marking_held, marking_passes, marking_stands}
use Rattle.clr_bgmark.proofs.MarkedBehind.{behind_first, behind_last, bits_marked, bits_or_later, IsBehindFrom, no_bits}
use Rattle.clr_bgmark.proofs.last_pause.mark_from.Goals.{else-bits-ne0, then-bits-ne0}
use Rattle.clr_bgmark.proofs.last_pause.mark_from.Goals as goal

pub loop-n-init : goal.loop-n-init
loop-n-init c =
    let s = c.args.shade.now in
    let rows = c.args.types.now in
    let h = c.args.heap.now in
    let from = c.args.from in
    let start = c.saturating_sub-n.ensures ∙ ap (λ (b : ℕ). from - b) c.base.ensures in
    let first : (from - s.base) / 512 ≡ c.saturating_sub-n.result / 512 = ap (λ (n : ℕ). n / 512) (sym start) in
    let marking =
    subst (λ (n : ℕ). IsMarking rows (IsMarkedBehind s from) (IsBehindFrom s from n) h h) first
    (marking_passes rows (IsMarkedBehind s from) (IsMarkedBehind s from) (IsBehindFrom s from ((from - s.base) / 512)) h
    h (marking_begins rows (IsMarkedBehind s from) h) (behind_first s c.requires.shade from)) in
    record { start = omega (arith, first); marking = marking }

pub bits_from-bits-requires-clause-below : goal.bits_from-bits-requires-clause-below
bits_from-bits-requires-clause-below c =
    let start = c.loop-n.invariant.start in
    let place = c.marked_word-place.ensures.place in
    omega (arith, start, place)

pub mark_word-near-requires-clause-heap : goal.mark_word-near-requires-clause-heap
mark_word-near-requires-clause-heap c =
    let s = c.args.shade.now in
    marking_heap c.args.types.now (IsMarkedBehind s c.args.from) (IsBehindFrom s c.args.from c.loop-n.n) c.args.heap.now
    c.loop-n.heap c.requires.heap c.loop-n.invariant.marking

pub mark_word-near-requires-clause-held : goal.mark_word-near-requires-clause-held
mark_word-near-requires-clause-held c =
    let s = c.args.shade.now in
    marking_held c.args.types.now (IsMarkedBehind s c.args.from) (IsBehindFrom s c.args.from c.loop-n.n) c.args.heap.now
    c.loop-n.heap c.requires.heap c.requires.held c.loop-n.invariant.marking

pub mark_word-near-requires-clause-stands : goal.mark_word-near-requires-clause-stands
mark_word-near-requires-clause-stands c =
    let s = c.args.shade.now in
    let from = c.args.from in
    let word = c.marked_word-place.ensures in
    let cut = c.bits_from-bits.ensures in
    let below = c.loop-n-test.true in
    let count = c.marked_words-n-end.ensures in
    λ x i. marking_stands c.args.types.now (IsMarkedBehind s from) (IsBehindFrom s from c.loop-n.n) c.args.heap.now
    c.loop-n.heap c.requires.heap c.requires.held c.loop-n.invariant.marking x
    (c.requires.stands x (bits_marked s c.requires.shade from c.loop-n.n (omega (arith, below, count))
    c.marked_word-place.result.0 c.marked_word-place.result.1 c.bits_from-bits.result word.place word.bits cut.only
    cut.all x i))

pub loop-n-preserved : goal.loop-n-preserved
loop-n-preserved c =
    let s = c.args.shade.now in
    let from = c.args.from in
    let rows = c.args.types.now in
    let h = c.args.heap.now in
    let now = c.loop-n.heap in
    let n = c.loop-n.n in
    let place = c.marked_word-place.result.0 in
    let bits = c.bits_from-bits.result in
    let word = c.marked_word-place.ensures in
    let cut = c.bits_from-bits.ensures in
    let below = c.loop-n-test.true in
    let count = c.marked_words-n-end.ensures in
    let start = c.loop-n.invariant.start in
    record {
      start = omega (arith, start);
      marking = elim c.if-bits-ne0.branch [
        | then-bits-ne0 w ↦
            subst (λ (k : HeapView). IsMarking rows (IsMarkedBehind s from) (IsBehindFrom s from (n + 1)) h k)
            (sym w.heap-is)
            (marking_goes rows (IsMarkedBehind s from) (IsBehindFrom s from n) (IsBehindFrom s from (n + 1))
            (IsInWord place bits) h now w.mark_word-near.new.heap c.requires.heap c.requires.held
            c.loop-n.invariant.marking
            w.mark_word-near.ensures
            (bits_marked s c.requires.shade from n (omega (arith, below, count)) place c.marked_word-place.result.1 bits
            word.place word.bits cut.only cut.all)
            (bits_or_later s c.requires.shade from n (omega (arith, below, count)) place
            c.marked_word-place.result.1 bits word.place word.bits cut.only cut.all))
        | else-bits-ne0 w ↦
            let none = w.if-bits-ne0.false in
            subst (λ (k : HeapView). IsMarking rows (IsMarkedBehind s from) (IsBehindFrom s from (n + 1)) h k)
            (sym w.heap-is)
            (marking_passes rows (IsMarkedBehind s from) (IsBehindFrom s from n) (IsBehindFrom s from (n + 1)) h now
            c.loop-n.invariant.marking
            (no_bits s c.requires.shade from n (omega (arith, below, count)) place c.marked_word-place.result.1 bits
            word.place word.bits cut.only cut.all (omega (arith, none))))
      ];
    }

pub returns : goal.returns
returns c =
    let s = c.args.shade.now in
    let end = c.loop-n-test.false in
    let count = c.marked_words-n-end.ensures in
    marking_ends c.args.types.now (IsMarkedBehind s c.args.from) (IsBehindFrom s c.args.from c.loop-n.n)
    c.args.heap.now c.loop-n.heap c.loop-n.invariant.marking
    (λ x i. behind_last s c.requires.shade c.args.from c.loop-n.n x (omega (arith, end, count)) i)
