use Rattle.std.proofs.Common.{ℕ, ◌+◌, ◌%◌, ◌<◌, ap, subst, length, arith, ◌∙◌}
use Rattle.clr_sweep.specs.Fronts.{front_at}
use Rattle.clr_sweep.specs.declared.behind.Front.{Front}
use Rattle.clr_bgmark.specs.LastPause.{HasMarked, IsFoundBehind, IsMarkedBehind}
use Rattle.clr_bgmark.proofs.EachFound.{lawful_shade}
use Rattle.clr_bgmark.proofs.EachMarked.{marking_begins, marking_ends, marking_goes, marking_heap, marking_held}
use Rattle.clr_bgmark.proofs.EachMarked.{marking_passes, marking_stands}
use Rattle.clr_bgmark.proofs.MarkedBehind.{behind_or_later, IsFoundLater, later_first, later_last, read_front}
use Rattle.clr_bgmark.proofs.MarkedBehind.{segment_behind}
use Rattle.clr_bgmark.proofs.last_pause.mark_behind.Goals as goal

pub loop-k-init : goal.loop-k-init
loop-k-init c =
    let ss = c.args.shades.now.items in
    let fs = c.args.fronts.now.items in
    let rows = c.args.types.now in
    let h = c.args.heap.now in
    marking_passes rows (IsFoundBehind ss fs) (IsFoundBehind ss fs) (IsFoundLater ss fs 0) h h
    (marking_begins rows (IsFoundBehind ss fs) h) (later_first ss fs)

pub mark_from-requires-clause-shade : goal.mark_from-requires-clause-shade
mark_from-requires-clause-shade c =
    let below = c.loop-k-test.true in
    let len = c.len-k-end.ensures in
    let ok = c.args.fronts.now.ok in
    let room = c.requires.room in
    lawful_shade c.args.shades.now.items c.requires.apart c.loop-k.k (omega arith) c.index.result.now c.index.ensures
    c.requires.shades

pub mark_from-requires-clause-aligned : goal.mark_from-requires-clause-aligned
mark_from-requires-clause-aligned c =
    let below = c.loop-k-test.true in
    let len = c.len-k-end.ensures in
    let ok = c.args.fronts.now.ok in
    let room = c.requires.room in
    let inside : c.loop-k.k < length c.args.shades.now.items = omega arith in
    ap (λ (f : Front). f.place % 8) (read_front c.args.fronts.now.items c.loop-k.k c.index-in-loop-k.result.now
    (omega (arith, inside, room)) c.index-in-loop-k.ensures)
    ∙ c.requires.aligned c.loop-k.k inside

pub mark_from-requires-clause-heap : goal.mark_from-requires-clause-heap
mark_from-requires-clause-heap c =
    let ss = c.args.shades.now.items in
    let fs = c.args.fronts.now.items in
    marking_heap c.args.types.now (IsFoundBehind ss fs) (IsFoundLater ss fs c.loop-k.k) c.args.heap.now c.loop-k.heap
    c.requires.heap c.loop-k.invariant

pub mark_from-requires-clause-held : goal.mark_from-requires-clause-held
mark_from-requires-clause-held c =
    let ss = c.args.shades.now.items in
    let fs = c.args.fronts.now.items in
    marking_held c.args.types.now (IsFoundBehind ss fs) (IsFoundLater ss fs c.loop-k.k) c.args.heap.now c.loop-k.heap
    c.requires.heap c.requires.held c.loop-k.invariant

pub mark_from-requires-clause-stands : goal.mark_from-requires-clause-stands
mark_from-requires-clause-stands c =
    let ss = c.args.shades.now.items in
    let fs = c.args.fronts.now.items in
    let below = c.loop-k-test.true in
    let len = c.len-k-end.ensures in
    let ok = c.args.fronts.now.ok in
    let room = c.requires.room in
    let inside : c.loop-k.k < length ss = omega arith in
    let at = ap (λ (f : Front). f.place) (read_front fs c.loop-k.k c.index-in-loop-k.result.now
    (omega (arith, inside, room)) c.index-in-loop-k.ensures) in
    λ x i.
    let f = (segment_behind ss fs c.requires.apart c.loop-k.k inside c.index.result.now c.index.ensures x
    (subst (λ (n : ℕ). IsMarkedBehind c.index.result.now n x) at i)).found in
    marking_stands c.args.types.now (IsFoundBehind ss fs) (IsFoundLater ss fs c.loop-k.k) c.args.heap.now c.loop-k.heap
    c.requires.heap c.requires.held c.loop-k.invariant x (c.requires.objects.marked x f.0 f.1)

pub loop-k-preserved : goal.loop-k-preserved
loop-k-preserved c =
    let ss = c.args.shades.now.items in
    let fs = c.args.fronts.now.items in
    let k = c.loop-k.k in
    let s = c.index.result.now in
    let below = c.loop-k-test.true in
    let len = c.len-k-end.ensures in
    let ok = c.args.fronts.now.ok in
    let room = c.requires.room in
    let inside : k < length ss = omega arith in
    let at = ap (λ (f : Front). f.place) (read_front fs k c.index-in-loop-k.result.now (omega (arith, inside, room))
    c.index-in-loop-k.ensures) in
    let marked = subst (λ (n : ℕ). HasMarked c.args.types.now (IsMarkedBehind s n) c.loop-k.heap c.mark_from.new.heap)
    at c.mark_from.ensures in
    marking_goes c.args.types.now (IsFoundBehind ss fs) (IsFoundLater ss fs k) (IsFoundLater ss fs (k + 1))
    (IsMarkedBehind s (front_at fs k).place) c.args.heap.now c.loop-k.heap c.mark_from.new.heap c.requires.heap
    c.requires.held c.loop-k.invariant marked
    (segment_behind ss fs c.requires.apart k inside s c.index.ensures)
    (behind_or_later ss fs c.requires.apart k inside s c.index.ensures)

pub returns : goal.returns
returns c =
    let ss = c.args.shades.now.items in
    let fs = c.args.fronts.now.items in
    let end = c.loop-k-test.false in
    let len = c.len-k-end.ensures in
    let ok = c.args.fronts.now.ok in
    let room = c.requires.room in
    marking_ends c.args.types.now (IsFoundBehind ss fs) (IsFoundLater ss fs c.loop-k.k) c.args.heap.now c.loop-k.heap
    c.loop-k.invariant (λ x f. later_last ss fs c.loop-k.k x (omega arith) f)
