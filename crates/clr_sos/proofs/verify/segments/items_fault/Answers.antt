use Rattle.std.proofs.Common.{◌≡◌, ℕ, ◌+◌, ◌%◌, ◌^◌, ◌<◌, Some, sym, ◌∙◌, ap, subst, arith}
use Rattle.clr_types.specs.Segments.{first_place}
use Rattle.clr_heap.specs.View.{first_of, holes_of, last_of, word_of}
use Rattle.clr_heap.specs.Parts.{hole_from}
use Rattle.clr_sos.specs.CellScans.{IsNext}
use Rattle.clr_sos.specs.declared.verify.cells.Limits.{Limits}
use Rattle.clr_sos.specs.Faults.{rules_of}
use Rattle.clr_sos.specs.SegmentScans.{IsScanning}
use Rattle.clr_sos.proofs.SoundCells.{hole_inside, item_ok, roomy}
use Rattle.clr_sos.proofs.ScanSteps.{scan_ends, scan_fault, scan_hole, scan_item, scan_starts}
use Rattle.clr_sos.proofs.verify.segments.items_fault.Goals as goal

pub loop-place-init : goal.loop-place-init
loop-place-init c =
    let h = c.args.scan.now.heap.now in
    let k = c.args.scan.now.k in
    let lawful = c.info.ensures.lawful in
    let low = lawful.low in
    let base = lawful.base in
    let at : c.first_place-place.result ≡ first_of h k =
    c.first_place-place.ensures ∙ ap first_place c.info.ensures.value in
    let z : first_of h k % 8 ≡ 0 = omega arith in
    let next : ℕ = c.first_hole-next.result in
    subst (λ (p : ℕ). IsScanning c.args.scan.now.types.now c.args.scan.now.limits.large h k p next) (sym at)
    (scan_starts c.args.scan.now.types.now c.args.scan.now.limits.large h k next z low
    (subst (λ (p : ℕ). IsNext (holes_of h k) p next) at c.first_hole-next.ensures))

pub first_hole-next-requires-in-Some-clause-small : goal.first_hole-next-requires-in-Some-clause-small
first_hole-next-requires-in-Some-clause-small c =
    let room =
    hole_inside c.args.scan.now.heap.now c.args.scan.now.k c.loop-place.place c.in-Some.high c.requires.rests
    c.requires.in_range
    (sym c.hole_at.ensures ∙ c.in-Some.is) in
    let below = room.below in
    let up = c.info.ensures.lawful.high in
    let top = c.info.ensures.below_top in
    let fits = c.info.ensures.fits in
    omega arith

pub loop-place-smaller-in-Some : goal.loop-place-smaller-in-Some
loop-place-smaller-in-Some c =
    let h = c.args.scan.now.heap.now in
    let k = c.args.scan.now.k in
    let end : c.args.scan.now.limits.end ≡ last_of h k = ap (λ (l : Limits). l.end) c.requires.limits in
    let room =
    hole_inside h k c.loop-place.place c.in-Some.high c.requires.rests c.requires.in_range
    (sym c.hole_at.ensures ∙ c.in-Some.is) in
    let up = room.higher in
    let test = c.loop-place-test.true in
    omega arith

pub loop-place-preserved-in-Some : goal.loop-place-preserved-in-Some
loop-place-preserved-in-Some c =
    let h = c.args.scan.now.heap.now in
    let k = c.args.scan.now.k in
    let end : c.args.scan.now.limits.end ≡ last_of h k = ap (λ (l : Limits). l.end) c.requires.limits in
    let hole : hole_from (holes_of h k) c.loop-place.place ≡ Some c.in-Some.high =
    sym c.hole_at.ensures ∙ c.in-Some.is in
    let room = hole_inside h k c.loop-place.place c.in-Some.high c.requires.rests c.requires.in_range hole in
    let test = c.loop-place-test.true in
    scan_hole c.args.scan.now.types.now c.args.scan.now.limits.large h k c.loop-place.place c.loop-place.next
    c.loop-place.invariant (omega arith) c.in-Some.high c.first_hole-next-in-Some.result room hole
    c.first_hole-next-in-Some.ensures

pub overflow_add-place : goal.overflow_add-place
overflow_add-place c =
    let h = c.args.scan.now.heap.now in
    let k = c.args.scan.now.k in
    let rules = rules_of c.args.scan.now.types.now c.args.scan.now.limits.large h k in
    let room =
    roomy rules (word_of h) c.loop-place.place c.in-Ok.item
    (item_ok rules (word_of h) c.loop-place.place c.in-Ok.item
    (sym c.checked_item.ensures ∙ c.in-Ok.is)) in
    let below = room.below in
    let lawful = c.info.ensures.lawful in
    let value = c.info.ensures.value in
    let up = lawful.high in
    let top = c.info.ensures.below_top in
    let fits = c.info.ensures.fits in
    let small : c.loop-place.place + c.in-Ok.item.size < 2 ^ 64 = omega arith in
    omega (arith, small)

pub loop-place-smaller : goal.loop-place-smaller
loop-place-smaller c =
    let h = c.args.scan.now.heap.now in
    let k = c.args.scan.now.k in
    let end : c.args.scan.now.limits.end ≡ last_of h k = ap (λ (l : Limits). l.end) c.requires.limits in
    let rules = rules_of c.args.scan.now.types.now c.args.scan.now.limits.large h k in
    let room =
    roomy rules (word_of h) c.loop-place.place c.in-Ok.item
    (item_ok rules (word_of h) c.loop-place.place c.in-Ok.item
    (sym c.checked_item.ensures ∙ c.in-Ok.is)) in
    let least = room.least in
    let test = c.loop-place-test.true in
    omega arith

pub loop-place-preserved : goal.loop-place-preserved
loop-place-preserved c =
    let h = c.args.scan.now.heap.now in
    let k = c.args.scan.now.k in
    let end : c.args.scan.now.limits.end ≡ last_of h k = ap (λ (l : Limits). l.end) c.requires.limits in
    let lawful = c.info.ensures.lawful in
    let up = lawful.high in
    let top = c.info.ensures.below_top in
    let fits = c.info.ensures.fits in
    let test = c.loop-place-test.true in
    scan_item c.args.scan.now.types.now c.args.scan.now.limits.large h k c.loop-place.place c.loop-place.next
    c.loop-place.invariant (omega arith) c.in-Ok.item (sym c.hole_at.ensures ∙ c.in-None.is)
    (sym c.checked_item.ensures ∙ c.in-Ok.is)
    (omega arith)

pub returns-in-Err : goal.returns-in-Err
returns-in-Err c =
    let h = c.args.scan.now.heap.now in
    let k = c.args.scan.now.k in
    let end : c.args.scan.now.limits.end ≡ last_of h k = ap (λ (l : Limits). l.end) c.requires.limits in
    let test = c.loop-place-test.true in
    sym (scan_fault c.args.scan.now.types.now c.args.scan.now.limits.large h k c.loop-place.place c.loop-place.next
    c.loop-place.invariant (omega arith) c.in-Err.a (sym c.hole_at.ensures ∙ c.in-None.is)
    (sym c.checked_item.ensures ∙ c.in-Err.is))

pub returns : goal.returns
returns c =
    let h = c.args.scan.now.heap.now in
    let k = c.args.scan.now.k in
    let end : c.args.scan.now.limits.end ≡ last_of h k = ap (λ (l : Limits). l.end) c.requires.limits in
    let test = c.loop-place-test.false in
    sym (scan_ends c.args.scan.now.types.now c.args.scan.now.limits.large h k c.loop-place.place c.loop-place.next
    c.loop-place.invariant (omega arith))
