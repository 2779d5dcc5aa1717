use Rattle.std.proofs.Common.{◌+◌, sym, subst, arith}
use Rattle.clr_heap.specs.View.{HeapView}
use Rattle.clr_bgmark.specs.LastPause.{IsInWord, IsMarkedIn}
use Rattle.clr_bgmark.proofs.EachFound.{from_first, from_last, IsMarkedFrom, none_or_later, word_marked, word_or_later}
use Rattle.clr_bgmark.proofs.EachMarked.{IsMarking, marking_begins, marking_ends, marking_goes, marking_heap}
use Rattle.clr_bgmark.proofs.EachMarked.{marking_held, marking_passes, marking_stands}
use Rattle.clr_bgmark.proofs.last_pause.mark_segment.Goals.{else-bits-ne0, then-bits-ne0}
use Rattle.clr_bgmark.proofs.last_pause.mark_segment.Goals as goal

pub loop-n-init : goal.loop-n-init
loop-n-init c =
    let s = c.args.shade.now in
    let rows = c.args.types.now in
    let h = c.args.heap.now in
    marking_passes rows (IsMarkedIn s) (IsMarkedIn s) (IsMarkedFrom s 0) h h (marking_begins rows (IsMarkedIn s) h)
    (from_first s c.requires.shade)

pub mark_word-near-requires-clause-heap : goal.mark_word-near-requires-clause-heap
mark_word-near-requires-clause-heap c =
    let s = c.args.shade.now in
    marking_heap c.args.types.now (IsMarkedIn s) (IsMarkedFrom s c.loop-n.n) c.args.heap.now c.loop-n.heap
    c.requires.heap c.loop-n.invariant

pub mark_word-near-requires-clause-held : goal.mark_word-near-requires-clause-held
mark_word-near-requires-clause-held c =
    let s = c.args.shade.now in
    marking_held c.args.types.now (IsMarkedIn s) (IsMarkedFrom s c.loop-n.n) c.args.heap.now c.loop-n.heap
    c.requires.heap c.requires.held c.loop-n.invariant

pub mark_word-near-requires-clause-stands : goal.mark_word-near-requires-clause-stands
mark_word-near-requires-clause-stands c =
    let s = c.args.shade.now in
    let word = c.marked_word-place.ensures in
    let below = c.loop-n-test.true in
    let count = c.marked_words-n-end.ensures in
    λ x i. marking_stands c.args.types.now (IsMarkedIn s) (IsMarkedFrom s c.loop-n.n) c.args.heap.now c.loop-n.heap
    c.requires.heap c.requires.held c.loop-n.invariant x
    (c.requires.stands x (word_marked s c.requires.shade c.loop-n.n (omega (arith, below, count))
    c.marked_word-place.result.0 c.marked_word-place.result.1 word.place word.bits x i))

pub loop-n-preserved : goal.loop-n-preserved
loop-n-preserved c =
    let s = c.args.shade.now in
    let rows = c.args.types.now in
    let h = c.args.heap.now in
    let now = c.loop-n.heap in
    let n = c.loop-n.n in
    let place = c.marked_word-place.result.0 in
    let bits = c.marked_word-place.result.1 in
    let word = c.marked_word-place.ensures in
    let below = c.loop-n-test.true in
    let count = c.marked_words-n-end.ensures in
    elim c.if-bits-ne0.branch [
      | then-bits-ne0 w ↦
          subst (λ (k : HeapView). IsMarking rows (IsMarkedIn s) (IsMarkedFrom s (n + 1)) h k) (sym w.heap-is)
          (marking_goes rows (IsMarkedIn s) (IsMarkedFrom s n) (IsMarkedFrom s (n + 1)) (IsInWord place bits) h now
          w.mark_word-near.new.heap c.requires.heap c.requires.held c.loop-n.invariant w.mark_word-near.ensures
          (word_marked s c.requires.shade n (omega (arith, below, count)) place bits word.place word.bits)
          (word_or_later s c.requires.shade n (omega (arith, below, count)) place bits word.place word.bits))
      | else-bits-ne0 w ↦
          let none = w.if-bits-ne0.false in
          subst (λ (k : HeapView). IsMarking rows (IsMarkedIn s) (IsMarkedFrom s (n + 1)) h k) (sym w.heap-is)
          (marking_passes rows (IsMarkedIn s) (IsMarkedFrom s n) (IsMarkedFrom s (n + 1)) h now c.loop-n.invariant
          (none_or_later s c.requires.shade n (omega (arith, below, count)) place bits word.place word.bits
          (omega (arith, none))))
    ]

pub returns : goal.returns
returns c =
    let s = c.args.shade.now in
    let end = c.loop-n-test.false in
    let count = c.marked_words-n-end.ensures in
    marking_ends c.args.types.now (IsMarkedIn s) (IsMarkedFrom s c.loop-n.n) c.args.heap.now c.loop-n.heap
    c.loop-n.invariant (λ x i. from_last s c.requires.shade c.loop-n.n x (omega (arith, end, count)) i)
