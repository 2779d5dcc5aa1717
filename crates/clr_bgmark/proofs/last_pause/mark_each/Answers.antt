use Rattle.std.proofs.Common.{◌+◌, ◌<◌, length, arith}
use Rattle.clr_bgmark.specs.LastPause.{IsMarkedIn}
use Rattle.clr_bgmark.specs.Pauses.{IsFound}
use Rattle.clr_bgmark.proofs.EachFound.{found_first, found_last, IsFoundFrom, lawful_shade, segment_found}
use Rattle.clr_bgmark.proofs.EachFound.{segment_or_later}
use Rattle.clr_bgmark.proofs.EachMarked.{marking_begins, marking_ends, marking_goes, marking_heap, marking_held}
use Rattle.clr_bgmark.proofs.EachMarked.{marking_passes, marking_stands}
use Rattle.clr_bgmark.proofs.last_pause.mark_each.Goals as goal

pub loop-k-init : goal.loop-k-init
loop-k-init c =
    let ss = c.args.shades.now.items in
    let rows = c.args.types.now in
    let h = c.args.heap.now in
    marking_passes rows (IsFound ss) (IsFound ss) (IsFoundFrom ss 0) h h (marking_begins rows (IsFound ss) h)
    (found_first ss)

pub mark_segment-requires-clause-shade : goal.mark_segment-requires-clause-shade
mark_segment-requires-clause-shade c =
    let ss = c.args.shades.now.items in
    let below = c.loop-k-test.true in
    let len = c.len-k-end.ensures in
    let ok = c.args.shades.now.ok in
    lawful_shade ss c.requires.apart c.loop-k.k (omega arith) c.index.result.now c.index.ensures c.requires.shades

pub mark_segment-requires-clause-heap : goal.mark_segment-requires-clause-heap
mark_segment-requires-clause-heap c =
    let ss = c.args.shades.now.items in
    marking_heap c.args.types.now (IsFound ss) (IsFoundFrom ss c.loop-k.k) c.args.heap.now c.loop-k.heap
    c.requires.heap c.loop-k.invariant

pub mark_segment-requires-clause-held : goal.mark_segment-requires-clause-held
mark_segment-requires-clause-held c =
    let ss = c.args.shades.now.items in
    marking_held c.args.types.now (IsFound ss) (IsFoundFrom ss c.loop-k.k) c.args.heap.now c.loop-k.heap
    c.requires.heap c.requires.held c.loop-k.invariant

pub mark_segment-requires-clause-stands : goal.mark_segment-requires-clause-stands
mark_segment-requires-clause-stands c =
    let ss = c.args.shades.now.items in
    let below = c.loop-k-test.true in
    let len = c.len-k-end.ensures in
    let ok = c.args.shades.now.ok in
    let found = segment_found ss c.requires.apart c.loop-k.k (omega arith) c.index.result.now c.index.ensures in
    λ x i.
    let f = found x i in
    marking_stands c.args.types.now (IsFound ss) (IsFoundFrom ss c.loop-k.k) c.args.heap.now c.loop-k.heap
    c.requires.heap c.requires.held c.loop-k.invariant x (c.requires.objects.marked x f.0 f.1)

pub loop-k-preserved : goal.loop-k-preserved
loop-k-preserved c =
    let ss = c.args.shades.now.items in
    let k = c.loop-k.k in
    let s = c.index.result.now in
    let below = c.loop-k-test.true in
    let len = c.len-k-end.ensures in
    let ok = c.args.shades.now.ok in
    let within : k < length ss = omega arith in
    marking_goes c.args.types.now (IsFound ss) (IsFoundFrom ss k) (IsFoundFrom ss (k + 1)) (IsMarkedIn s)
    c.args.heap.now c.loop-k.heap c.mark_segment.new.heap c.requires.heap c.requires.held c.loop-k.invariant
    c.mark_segment.ensures (segment_found ss c.requires.apart k within s c.index.ensures)
    (segment_or_later ss c.requires.apart k within s c.index.ensures)

pub returns-clause-found : goal.returns-clause-found
returns-clause-found c =
    let ss = c.args.shades.now.items in
    let end = c.loop-k-test.false in
    let len = c.len-k-end.ensures in
    let ok = c.args.shades.now.ok in
    (marking_ends c.args.types.now (IsFound ss) (IsFoundFrom ss c.loop-k.k) c.args.heap.now c.loop-k.heap
    c.loop-k.invariant (λ x f. found_last ss c.loop-k.k x (omega arith) f)).found
