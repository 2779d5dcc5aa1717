-- The range of the window is widened, or begun.
use Rattle.std.proofs.Common.{rules, ◌≡◌, ◌≢◌, ◌-◌, ◌∙◌, ap, get_or, ℕ, List, set, sym}
use Rattle.std.proofs.lemmas.Bool.{eqb-true}
use Rattle.clr_mark.specs.Overflow.{widened, window}
use Rattle.clr_mark.proofs.OverflowNumbers.{passed-none, widened-told}
use Rattle.clr_mark.proofs.WidenedRanges.{widened-new}
use Rattle.clr_mark.proofs.marker.overflow.OverflowRanges.widen.Goals as goal

pub returns-then-number-eq0 : goal.returns-then-number-eq0
returns-then-number-eq0 c =
    let r = c.self.inside in
    c.push_reserved.ensures.items
    ∙ sym (widened-new r.ranges.items c.args.address
    (passed-none r.ranges.items r.numbers.items _ c.self.invariant c.args.address (search rules)))
    ∙ ap (λ (rs : List (ℕ × ℕ)). widened rs c.args.address) c.self.view_is

pub returns : goal.returns
returns c =
    let r = c.self.inside in
    let same = c.from-number.ensures in
    let some : c.index.result.now ≢ 0 = search rules in
    ap (λ (n : ℕ). set r.ranges.items (n - 1) (c.min.result, c.max.result)) same
    ∙ widened-told r.ranges.items r.numbers.items _ c.self.invariant c.args.address c.index.result.now
    c.index-2.result.now c.min.result c.max.result
    (c.index.ensures ∙ ap (λ (w : ℕ). get_or r.numbers.items w c.index.result.now) c.window_of-window.ensures.window)
    some
    (c.index-2.ensures ∙ ap (λ (n : ℕ). get_or r.ranges.items (n - 1) c.index-2.result.now) same)
    c.min.ensures c.max.ensures
    ∙ ap (λ (rs : List (ℕ × ℕ)). widened rs c.args.address) c.self.view_is
