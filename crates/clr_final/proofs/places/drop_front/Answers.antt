use Rattle.std.proofs.Common.{◌≡◌, ◌∙◌, ◌-◌, length, arith}
use Rattle.clr_final.proofs.PeakSteps.{moved-down}
use Rattle.clr_final.proofs.places.drop_front.Goals as goal

pub returns-clause-items : goal.returns-clause-items
returns-clause-items c =
    let old = c.args.items.now.items in
    let len = c.len.ensures in
    let ok = c.args.items.now.ok in
    let count : c.len.result - c.args.n ≡ length old - c.args.n = omega (arith, len, ok) in
    let down =
    moved-down old c.loop-i.items.items c.args.n (c.len.result - c.args.n) c.loop-i.i c.requires count
    c.loop-i-test.false c.loop-i.invariant.same_length c.loop-i.invariant.moved in
    c.truncate.ensures.items ∙ down
