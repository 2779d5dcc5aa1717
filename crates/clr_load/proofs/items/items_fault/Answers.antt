-- One item more is one step more.
use Rattle.std.proofs.Common.{◌≡◌, ℕ, ◌||◌, List, Ok, Err, sym, ◌∙◌, ap, subst, arith}
use Rattle.clr_types.specs.declared.item.Item.{Item}
use Rattle.clr_sos.specs.CheckedCells.{fault_of}
use Rattle.clr_sos.specs.Faults.{stands}
use Rattle.clr_load.specs.ItemScans.{IsItemScan}
use Rattle.clr_load.specs.Starts.{has_place}
use Rattle.clr_load.proofs.ItemSteps.{scan_ends, scan_fault, scan_item, scan_starts}
use Rattle.clr_load.proofs.items.items_fault.Goals as goal

pub loop-place-init : goal.loop-place-init
loop-place-init c =
    let base = c.requires.scan.base in
    let low = c.requires.scan.low in
    subst (λ (p : ℕ). IsItemScan c.args.scan.now p c.args.range.now c.args.range.now)
    (sym c.first_place-place.ensures)
    (scan_starts c.args.scan.now c.args.range.now (omega arith) low c.requires.scan.within c.requires.range)

pub returns-in-Err-clause-fault : goal.returns-in-Err-clause-fault
returns-in-Err-clause-fault c =
    sym (ap fault_of
    (scan_fault c.args.scan.now c.args.range.now c.loop-place.place c.loop-place.range c.loop-place.invariant
    c.loop-place-test.true c.in-Err.a (sym c.checked_item.ensures.is ∙ c.in-Err.is)))

pub returns-in-Err-clause-marked : goal.returns-in-Err-clause-marked
returns-in-Err-clause-marked c items ok x =
    let bad =
    scan_fault c.args.scan.now c.args.range.now c.loop-place.place c.loop-place.range c.loop-place.invariant
    c.loop-place-test.true c.in-Err.a (sym c.checked_item.ensures.is ∙ c.in-Err.is) in
    let clash : Ok items ≡ Err c.in-Err.a = sym ok ∙ bad in
    absurd cc

pub loop-place-preserved : goal.loop-place-preserved
loop-place-preserved c =
    scan_item c.args.scan.now c.args.range.now c.loop-place.place c.loop-place.range c.loop-place.invariant
    c.loop-place-test.true c.in-Ok.item _ (sym c.checked_item.ensures.is ∙ c.in-Ok.is) c.in-Ok.ensures.room
    c.mark_item.ensures.range c.mark_item.ensures.marked

pub returns-clause-fault : goal.returns-clause-fault
returns-clause-fault c =
    sym (ap fault_of
    (scan_ends c.args.scan.now c.args.range.now c.loop-place.place c.loop-place.range c.loop-place.invariant
    c.loop-place-test.false))

pub returns-clause-marked : goal.returns-clause-marked
returns-clause-marked c items ok x =
    let all =
    scan_ends c.args.scan.now c.args.range.now c.loop-place.place c.loop-place.range c.loop-place.invariant
    c.loop-place-test.false in
    let same : Ok c.loop-place.invariant.done ≡ Ok items = sym all ∙ ok in
    let is : c.loop-place.invariant.done ≡ items = cc in
    c.loop-place.invariant.marked x
    ∙ ap (λ (found : List Item). has_place c.args.range.now x || stands found x) is
