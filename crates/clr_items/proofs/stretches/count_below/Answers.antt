use Rattle.std.proofs.Common.{◌≡◌, ◌+◌, ◌-◌, ◌/◌, ap, arith, get_or, nat_lt}
use Rattle.std.proofs.lemmas.List.Sums.{prefix_len-le-length}
use Rattle.clr_types.specs.Ranges.{Piece}
use Rattle.clr_items.proofs.Lists.{counted, not_counted}
use Rattle.clr_items.proofs.stretches.count_below.Goals as goal

pub loop-low-init : goal.loop-low-init
loop-low-init c =
    let n = prefix_len-le-length (λ (p : Piece). nat_lt p.place c.args.place) c.args.items.now in
    (omega arith, omega (arith, n), omega arith)

pub loop-low-preserved-then-place : goal.loop-low-preserved-then-place
loop-low-preserved-then-place c =
    let ps = c.args.items.now in
    let middle = c.loop-low.low + (c.loop-low.high - c.loop-low.low) / 2 in
    let d = c.index-items-middle.result in
    let inv = c.loop-low.invariant in
    let some = c.loop-low-test.true in
    let at : d.place ≡ (get_or ps middle d).place = ap (λ (p : Piece). p.place) c.index-items-middle.is in
    let read = c.place.ensures in
    let low = c.if-place.true in
    let more = counted ps middle c.args.place d c.requires (omega (arith, inv, some)) (omega (arith, at, read, low)) in
    (omega (arith, more), inv.1, inv.2)

pub loop-low-preserved : goal.loop-low-preserved
loop-low-preserved c =
    let ps = c.args.items.now in
    let middle = c.loop-low.low + (c.loop-low.high - c.loop-low.low) / 2 in
    let d = c.index-items-middle.result in
    let inv = c.loop-low.invariant in
    let some = c.loop-low-test.true in
    let at : d.place ≡ (get_or ps middle d).place = ap (λ (p : Piece). p.place) c.index-items-middle.is in
    let read = c.place.ensures in
    let high = c.if-place.false in
    (inv.0, not_counted ps middle c.args.place d (omega (arith, at, read, high)), omega (arith, inv, some))
