use Rattle.std.proofs.Common.{◌≡◌, ℕ, ◌+◌, ◌-◌, ◌/◌, ◌<◌, ◌≤◌, length, ap, sym, ◌∙◌, arith, false}
use Rattle.clr_bgmark.specs.Shades.{ShadeView, covers}
use Rattle.clr_bgmark.proofs.GrayPlaces.{apart_at}
use Rattle.clr_bgmark.proofs.Rising.{none_at_all, none_before, none_behind, none_found}
use Rattle.clr_bgmark.proofs.shades.find.Goals as goal

pub returns-then-count-eq0-clause-none : goal.returns-then-count-eq0-clause-none
returns-then-count-eq0-clause-none c =
    let empty = c.if-count-eq0.true in
    let len = c.len-count.ensures in
    let ok = c.args.shades.now.ok in
    none_at_all c.args.shades.now.items c.args.a (λ i d l. absurd (omega arith))

pub loop-low-init : goal.loop-low-init
loop-low-init c =
    let some = c.if-count-eq0.false in
    let len = c.len-count.ensures in
    let ok = c.args.shades.now.ok in
    record {
      before = λ i d low high l. absurd (omega (arith, high));
      behind = λ i d low high l. absurd (omega (arith, low, l, len, ok));
      apart = omega arith;
      within = omega arith;
    }

pub loop-low-preserved-then-base-a : goal.loop-low-preserved-then-base-a
loop-low-preserved-then-base-a c =
    let ss = c.args.shades.now.items in
    let s = c.index.result.now in
    let m = c.loop-low.low + (c.loop-low.high - c.loop-low.low) / 2 in
    let more = c.loop-low-test.true in
    let i = c.loop-low.invariant in
    let is = c.base.ensures in
    let low = c.if-base-a.true in
    record {
      before = none_before ss m c.args.a s c.index.ensures c.requires.rising (omega arith) (omega arith);
      behind = i.behind;
      apart = omega arith;
      within = i.within;
    }

pub loop-low-preserved : goal.loop-low-preserved
loop-low-preserved c =
    let ss = c.args.shades.now.items in
    let s = c.index.result.now in
    let m = c.loop-low.low + (c.loop-low.high - c.loop-low.low) / 2 in
    let more = c.loop-low-test.true in
    let i = c.loop-low.invariant in
    let is = c.base.ensures in
    let high = c.if-base-a.false in
    record {
      before = i.before;
      behind = none_behind ss m (length ss) c.args.a s c.index.ensures c.requires.rising (omega arith) (omega arith);
      apart = omega arith;
      within = omega arith;
    }

pub returns-then-covers-clause-at : goal.returns-then-covers-clause-at
returns-then-covers-clause-at c =
    let ss = c.args.shades.now.items in
    let s = c.index-2.result.now in
    let i = c.loop-low.invariant in
    apart_at ss c.loop-low.low c.args.a s c.requires.apart (omega arith)
    (ap (λ (t : ShadeView). covers t c.args.a) (sym c.index-2.ensures) ∙ sym c.covers.ensures ∙ c.if-covers.true)

pub returns-clause-none : goal.returns-clause-none
returns-clause-none c =
    let ss = c.args.shades.now.items in
    let s = c.index-2.result.now in
    let i = c.loop-low.invariant in
    let last = c.loop-low-test.false in
    none_found ss c.args.a c.loop-low.low c.loop-low.high s c.index-2.ensures (sym c.covers.ensures ∙ c.if-covers.false)
    i.before i.behind (omega arith)
