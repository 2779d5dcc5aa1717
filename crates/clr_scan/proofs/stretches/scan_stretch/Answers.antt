use Rattle.std.proofs.Common.{ℕ, ◌<◌, ◌≤◌, ◌||◌, arith}
use Rattle.clr_heap.specs.View.{last_of}
use Rattle.clr_scan.proofs.SlotScans.{younger_joined, younger_parts}
use Rattle.clr_scan.proofs.StretchScans.{stretch_cursor, stretch_here, stretch_last_quiet, stretch_last_scanned}
use Rattle.clr_scan.proofs.StretchScans.{stretch_last_traced, stretch_least, stretch_next, stretch_older}
use Rattle.clr_scan.proofs.StretchScans.{stretch_quiet, stretch_silent, stretch_starts, stretch_traced}
use Rattle.clr_scan.proofs.stretches.scan_stretch.Goals as goal

below_last : (p hi last : ℕ) → p < hi → hi ≤ last → p < last
below_last p hi last l m = omega arith

pub loop-place-init : goal.loop-place-init
loop-place-init c = stretch_starts c.args.types.now c.args.heap.now c.args.k c.requires.gray.closed
    c.requires.in_range c.requires.no_contexts c.args.lo c.args.hi c.requires.order c.args.marker.now c.args.cursor
    c.requires.gray c.requires.cursor

pub scan_item-size-requires-clause-listed : goal.scan_item-size-requires-clause-listed
scan_item-size-requires-clause-listed c =
    stretch_here c.args.types.now c.args.heap.now c.args.k c.requires.gray.closed c.requires.in_range
    c.requires.no_contexts c.args.lo c.args.hi c.requires.order c.loop-place.heap c.args.marker.now
    c.loop-place.marker c.loop-place.place c.loop-place.younger c.loop-place.invariant
    (below_last c.loop-place.place c.args.hi (last_of c.args.heap.now c.args.k) c.loop-place-test.true
    c.requires.inside)

pub scan_item-size-requires-clause-older : goal.scan_item-size-requires-clause-older
scan_item-size-requires-clause-older c =
    stretch_older c.args.types.now c.args.heap.now c.args.k c.requires.gray.closed c.requires.in_range
    c.requires.no_contexts c.args.lo c.args.hi c.requires.order c.loop-place.heap c.args.marker.now
    c.loop-place.marker c.loop-place.place c.loop-place.younger c.loop-place.invariant
    (below_last c.loop-place.place c.args.hi (last_of c.args.heap.now c.args.k) c.loop-place-test.true
    c.requires.inside) c.requires.older c.loop-place-test.true

pub returns-then-size-hi-clause-scanned : goal.returns-then-size-hi-clause-scanned
returns-then-size-hi-clause-scanned c =
    stretch_last_scanned c.args.types.now c.args.heap.now c.args.k c.requires.gray.closed c.requires.in_range
    c.requires.no_contexts c.args.lo c.args.hi c.requires.order c.loop-place.heap c.args.marker.now
    c.loop-place.marker c.loop-place.place c.loop-place.younger c.loop-place.invariant
    (below_last c.loop-place.place c.args.hi (last_of c.args.heap.now c.args.k) c.loop-place-test.true
    c.requires.inside) c.scan_item-size.new.heap c.scan_item-size.new.marker c.scan_item-size.result.1
    (c.loop-place.younger || c.scan_item-size.result.1) c.scan_item-size.ensures.gray c.scan_item-size.ensures.scanned
    c.scan_item-size.ensures.traced c.scan_item-size.ensures.quiet c.scan_item-size.ensures.silent
    (younger_parts c.loop-place.younger c.scan_item-size.result.1)
    (younger_joined c.loop-place.younger c.scan_item-size.result.1)

pub returns-then-size-hi-clause-traced : goal.returns-then-size-hi-clause-traced
returns-then-size-hi-clause-traced c =
    stretch_last_traced c.args.types.now c.args.heap.now c.args.k c.requires.gray.closed c.requires.in_range
    c.requires.no_contexts c.args.lo c.args.hi c.requires.order c.loop-place.heap c.args.marker.now
    c.loop-place.marker c.loop-place.place c.loop-place.younger c.loop-place.invariant
    (below_last c.loop-place.place c.args.hi (last_of c.args.heap.now c.args.k) c.loop-place-test.true
    c.requires.inside) c.scan_item-size.new.heap c.scan_item-size.new.marker c.scan_item-size.result.1
    (c.loop-place.younger || c.scan_item-size.result.1) c.scan_item-size.ensures.gray c.scan_item-size.ensures.scanned
    c.scan_item-size.ensures.traced c.scan_item-size.ensures.quiet c.scan_item-size.ensures.silent
    (younger_parts c.loop-place.younger c.scan_item-size.result.1)
    (younger_joined c.loop-place.younger c.scan_item-size.result.1)
    (let size = c.scan_item-size.ensures.size in let l = c.if-size-hi.true in let b = c.loop-place-test.true in
    omega (arith, size, l, b))

pub returns-then-size-hi-clause-quiet : goal.returns-then-size-hi-clause-quiet
returns-then-size-hi-clause-quiet c =
    stretch_last_quiet c.args.types.now c.args.heap.now c.args.k c.requires.gray.closed c.requires.in_range
    c.requires.no_contexts c.args.lo c.args.hi c.requires.order c.loop-place.heap c.args.marker.now
    c.loop-place.marker c.loop-place.place c.loop-place.younger c.loop-place.invariant
    (below_last c.loop-place.place c.args.hi (last_of c.args.heap.now c.args.k) c.loop-place-test.true
    c.requires.inside) c.scan_item-size.new.heap c.scan_item-size.new.marker c.scan_item-size.result.1
    (c.loop-place.younger || c.scan_item-size.result.1) c.scan_item-size.ensures.gray c.scan_item-size.ensures.scanned
    c.scan_item-size.ensures.traced c.scan_item-size.ensures.quiet c.scan_item-size.ensures.silent
    (younger_parts c.loop-place.younger c.scan_item-size.result.1)
    (younger_joined c.loop-place.younger c.scan_item-size.result.1)
    (let size = c.scan_item-size.ensures.size in let l = c.if-size-hi.true in let b = c.loop-place-test.true in
    omega (arith, size, l, b))

pub returns-then-size-hi-clause-cursor : goal.returns-then-size-hi-clause-cursor
returns-then-size-hi-clause-cursor c =
    stretch_cursor c.args.types.now c.args.heap.now c.args.k c.requires.gray.closed c.requires.in_range
    c.requires.no_contexts c.args.lo c.args.hi c.requires.order c.loop-place.heap c.args.marker.now
    c.loop-place.marker c.loop-place.place c.loop-place.younger c.loop-place.invariant

pub loop-place-smaller : goal.loop-place-smaller
loop-place-smaller c =
    let least = stretch_least c.args.types.now c.args.heap.now c.args.k c.requires.gray.closed c.requires.in_range
    c.requires.no_contexts c.args.lo c.args.hi c.requires.order c.loop-place.heap c.args.marker.now
    c.loop-place.marker c.loop-place.place c.loop-place.younger c.loop-place.invariant
    (below_last c.loop-place.place c.args.hi (last_of c.args.heap.now c.args.k) c.loop-place-test.true
    c.requires.inside) in
    let size = c.scan_item-size.ensures.size in
    let l = c.if-size-hi.false in
    let b = c.loop-place-test.true in
    omega (arith, least, size, l, b)

pub loop-place-preserved : goal.loop-place-preserved
loop-place-preserved c =
    rw c.scan_item-size.ensures.size
    (stretch_next c.args.types.now c.args.heap.now c.args.k c.requires.gray.closed c.requires.in_range
    c.requires.no_contexts c.args.lo c.args.hi c.requires.order c.loop-place.heap c.args.marker.now
    c.loop-place.marker c.loop-place.place c.loop-place.younger c.loop-place.invariant
    (below_last c.loop-place.place c.args.hi (last_of c.args.heap.now c.args.k) c.loop-place-test.true
    c.requires.inside) c.scan_item-size.new.heap c.scan_item-size.new.marker c.scan_item-size.result.1
    (c.loop-place.younger || c.scan_item-size.result.1) c.scan_item-size.ensures.gray
    c.scan_item-size.ensures.scanned c.scan_item-size.ensures.traced c.scan_item-size.ensures.quiet
    c.scan_item-size.ensures.silent (younger_parts c.loop-place.younger c.scan_item-size.result.1)
    (younger_joined c.loop-place.younger c.scan_item-size.result.1)
    (let size = c.scan_item-size.ensures.size in let l = c.if-size-hi.false in let b = c.loop-place-test.true in
    omega (arith, size, l, b)))

pub returns-clause-traced : goal.returns-clause-traced
returns-clause-traced c = stretch_traced c.args.types.now c.args.heap.now c.args.k c.requires.gray.closed
    c.requires.in_range c.requires.no_contexts c.args.lo c.args.hi c.requires.order c.loop-place.heap
    c.args.marker.now c.loop-place.marker c.loop-place.place c.loop-place.younger c.loop-place.invariant
    c.loop-place-test.false

pub returns-clause-quiet : goal.returns-clause-quiet
returns-clause-quiet c = stretch_quiet c.args.types.now c.args.heap.now c.args.k c.requires.gray.closed
    c.requires.in_range c.requires.no_contexts c.args.lo c.args.hi c.requires.order c.loop-place.heap
    c.args.marker.now c.loop-place.marker c.loop-place.place c.loop-place.younger c.loop-place.invariant
    c.loop-place-test.false

pub returns-clause-cursor : goal.returns-clause-cursor
returns-clause-cursor c = stretch_cursor c.args.types.now c.args.heap.now c.args.k c.requires.gray.closed
    c.requires.in_range c.requires.no_contexts c.args.lo c.args.hi c.requires.order c.loop-place.heap
    c.args.marker.now c.loop-place.marker c.loop-place.place c.loop-place.younger c.loop-place.invariant

pub returns-then-size-hi-clause-silent : goal.returns-then-size-hi-clause-silent
returns-then-size-hi-clause-silent c =
    stretch_silent c.args.types.now c.args.heap.now c.args.k c.requires.gray.closed c.requires.in_range
    c.requires.no_contexts c.args.lo c.args.hi c.requires.order c.loop-place.heap c.args.marker.now
    c.loop-place.marker c.loop-place.place c.loop-place.younger c.loop-place.invariant
    (below_last c.loop-place.place c.args.hi (last_of c.args.heap.now c.args.k) c.loop-place-test.true
    c.requires.inside) c.scan_item-size.new.heap c.scan_item-size.new.marker c.scan_item-size.result.1
    (c.loop-place.younger || c.scan_item-size.result.1) c.scan_item-size.ensures.gray c.scan_item-size.ensures.scanned
    c.scan_item-size.ensures.traced c.scan_item-size.ensures.quiet c.scan_item-size.ensures.silent
    (younger_parts c.loop-place.younger c.scan_item-size.result.1)
    (younger_joined c.loop-place.younger c.scan_item-size.result.1)
