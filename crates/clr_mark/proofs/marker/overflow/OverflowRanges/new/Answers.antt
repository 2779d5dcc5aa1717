-- At first no window has a range.
use Rattle.std.proofs.Common.{rules, ◌≡◌, ◌≤◌, ℕ, List, [], replicate, subst, sym}
use Rattle.std.specs.Vec.{vec_capacity}
use Rattle.clr_mark.specs.Overflow.{AreNumbered}
use Rattle.clr_mark.proofs.OverflowNumbers.{numbered-none}
use Rattle.clr_mark.proofs.marker.overflow.OverflowRanges.new.Goals as goal

pub invariant_of-result : goal.invariant_of-result
invariant_of-result c =
    let none : c.in_ok-ranges.ranges.items ≡ [] = search rules in
    let much : 4096 ≤ vec_capacity c.in_ok-ranges.ranges = search rules in
    subst (λ (ns : List ℕ). AreNumbered c.in_ok-ranges.ranges.items ns (vec_capacity c.in_ok-ranges.ranges))
    (sym c.in_ok-numbers.ensures)
    (subst (λ (rs : List (ℕ × ℕ)). AreNumbered rs (replicate 4096 0) (vec_capacity c.in_ok-ranges.ranges)) (sym none)
    (numbered-none (vec_capacity c.in_ok-ranges.ranges) much))
