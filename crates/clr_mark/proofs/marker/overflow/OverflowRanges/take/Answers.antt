-- The last range goes, and its window has none.
use Rattle.std.proofs.Common.{rules, ◌≡◌, ℕ, List, [], ◌∷◌, ◌++◌, set, subst, sym}
use Rattle.std.specs.Vec.{vec_capacity}
use Rattle.clr_mark.specs.Overflow.{AreNumbered, window}
use Rattle.clr_mark.proofs.OverflowNumbers.{numbered-without}
use Rattle.clr_mark.proofs.marker.overflow.OverflowRanges.take.Goals as goal

pub invariant_of-self-2 : goal.invariant_of-self-2
invariant_of-self-2 c =
    let r = c.self.inside in
    let was : r.ranges.items ≡ c.pop.new.self.items ++ c.in_ok-range.range ∷ [] = search rules in
    let at : c.window_of.result ≡ window c.in_ok-range.range.0 = search rules in
    let same : vec_capacity r.ranges ≡ vec_capacity c.pop.new.self = search rules in
    let before = subst (λ (n : ℕ). AreNumbered r.ranges.items r.numbers.items n) same c.self.invariant in
    subst (λ (w : ℕ). AreNumbered c.pop.new.self.items (set r.numbers.items w 0) (vec_capacity c.pop.new.self)) (sym at)
    (numbered-without c.pop.new.self.items c.in_ok-range.range r.numbers.items (vec_capacity c.pop.new.self)
    (subst (λ (rs : List (ℕ × ℕ)). AreNumbered rs r.numbers.items (vec_capacity c.pop.new.self)) was before))
