use Rattle.std.proofs.Common.{◌≡◌, ◌+◌, ◌-◌, ◌/◌, get_or, ap, subst, arith, ℕ}
use Rattle.clr_covers.specs.Covers.{CoverView, IsAt}
use Rattle.clr_covers.proofs.Finding.{cover_index, covered_index, index_at_least, index_lower, IsAt-index}
use Rattle.clr_covers.proofs.covers.find.Goals as goal

pub loop-low-init : goal.loop-low-init
loop-low-init g c =
    let inside = covered_index c.args.covers.now.items c.args.i c.requires.covered in
    let len = c.len-high.ensures in
    record { above = omega arith; below = omega arith; within = omega arith }

pub loop-low-preserved-then-cover-i : goal.loop-low-preserved-then-cover-i
loop-low-preserved-then-cover-i g c =
    let cs = c.args.covers.now.items in
    let m = c.index-cover.result.now in
    let middle = c.loop-low.low + (c.loop-low.high - c.loop-low.low) / 2 in
    let more = c.loop-low-test.true in
    let i = c.loop-low.invariant in
    let first : m.first ≡ (get_or cs middle m).first = ap (λ (n : CoverView _). n.first) c.index-cover.ensures in
    let is : c.cover.inside.first ≡ m.first = ap (λ (n : CoverView _). n.first) c.cover.view_is in
    let low = c.if-cover-i.true in
    let up = index_at_least cs c.args.i m c.requires.apart c.requires.covered middle (omega arith) (omega arith) in
    record { above = up; below = i.below; within = i.within }

pub loop-low-preserved : goal.loop-low-preserved
loop-low-preserved g c =
    let cs = c.args.covers.now.items in
    let m = c.index-cover.result.now in
    let middle = c.loop-low.low + (c.loop-low.high - c.loop-low.low) / 2 in
    let more = c.loop-low-test.true in
    let i = c.loop-low.invariant in
    let first : m.first ≡ (get_or cs middle m).first = ap (λ (n : CoverView _). n.first) c.index-cover.ensures in
    let is : c.cover.inside.first ≡ m.first = ap (λ (n : CoverView _). n.first) c.cover.view_is in
    let high = c.if-cover-i.false in
    let down = index_lower cs c.args.i m c.requires.apart c.requires.covered middle (omega arith) (omega arith) in
    record { above = i.above; below = down; within = omega arith }

pub returns : goal.returns
returns g c =
    let cs = c.args.covers.now.items in
    let i = c.loop-low.invariant in
    let last = c.loop-low-test.false in
    let inside = covered_index cs c.args.i c.requires.covered in
    let at : cover_index cs c.args.i ≡ c.loop-low.low = omega arith in
    let P : ℕ → Type 0 = λ k. IsAt cs k c.args.i in
    subst P at (IsAt-index cs c.args.i c.requires.covered)
