use Rattle.std.proofs.Common.{◌≡◌, ℕ, ◌+◌, ◌-◌, ◌/◌, ◌<◌, [], arith, get_or, length, sym, subst}
use Rattle.clr_types.specs.Rising.{IsRisingBy}
use Rattle.clr_items.specs.Items.{lower_count}
use Rattle.clr_items.proofs.Lists.{place}
use Rattle.clr_items.proofs.StretchRows.{below-through, filled-at, home-made, IsBelow, rise-at}
use Rattle.clr_items.proofs.rows.find_stretch.Goals as goal

pub is_below-requires-clause-rising : goal.is_below-requires-clause-rising
is_below-requires-clause-rising c =
    let row = c.args.row.now in
    let middle = c.loop-low.low + (c.loop-low.high - c.loop-low.low) / 2 in
    let inv = c.loop-low.invariant in
    let some = c.loop-low-test.true in
    subst (IsRisingBy place) (sym c.index-row-middle.is)
    (rise-at row middle c.index-row-middle.result (omega (arith, inv, some)) c.requires.rising)

pub loop-low-preserved-then-is_below : goal.loop-low-preserved-then-is_below
loop-low-preserved-then-is_below c =
    let row = c.args.row.now in
    let middle = c.loop-low.low + (c.loop-low.high - c.loop-low.low) / 2 in
    let own = c.index-row-middle.result in
    let inv = c.loop-low.invariant in
    let some = c.loop-low-test.true in
    let within : middle < length row = omega (arith, inv, some) in (
      omega (arith, some),
      inv.1,
      below-through row middle c.args.place own c.requires.rising within
          (filled-at row middle own within c.requires.filled)
          (subst (IsBelow c.args.place) c.index-row-middle.is (c.is_below.ensures.below c.if-is_below.true)),
      inv.3,
    )

pub returns-clause-home : goal.returns-clause-home
returns-clause-home c =
    let row = c.args.row.now in
    let inv = c.loop-low.invariant in
    let test = c.loop-low-test.false in
    let same : c.loop-low.high ≡ c.loop-low.low = omega (arith, inv, test) in
    let at = c.args.place in
    home-made row c.loop-low.low at (omega (arith, inv)) inv.2
    (subst (λ (n : ℕ). n < length row → lower_count at (get_or row n []) < length (get_or row n [])) same inv.3)
