use Rattle.std.proofs.Common.{◌≡◌, ℕ, ◌<◌, ◌≤◌, ap, sym, ◌∙◌, arith, false, true, IfSome, None, Option, Some}
use Rattle.std.proofs.lemmas.Bool.{both_ways, cases_lt}
use Rattle.std.proofs.Common.{inl, inr}
use Rattle.clr_bgmark.specs.Pauses.{IsUnlogged}
use Rattle.clr_bgmark.specs.Bits.{has_bit}
use Rattle.clr_bgmark.specs.Shades.{ShadeView}
use Rattle.clr_bgmark.proofs.PassedCells.{unlogged_below}
use Rattle.clr_bgmark.proofs.shade.Shade.first_logged_cell.Goals as goal

pub returns-in-Some-clause-first : goal.returns-in-Some-clause-first
returns-in-Some-clause-first c =
    let next = c.next_logged-edge in
    let n = c.in-Some.n in
    unlogged_below c.args.self.now c.args.start next.result next.ensures.high next.ensures.clear n
    c.in-Some.ensures.high
    (ap (λ (s : ShadeView). has_bit s.marked n) (sym c.self.view_is) ∙ c.in-Some.ensures.here)

-- what holds of a number that is answered
answered : (P Q : ℕ → Type 0) → ((n : ℕ) → P n → Q n) → (o : Option ℕ) → IfSome o P → IfSome o Q
answered P Q f None h = h
answered P Q f (Some n) h = f n h

pub returns-in-None-clause-first : goal.returns-in-None-clause-first
returns-in-None-clause-first c =
    let from = c.max.ensures in
    answered (λ n. (i : ℕ) → c.max.result ≤ i → i < n → has_bit c.self.inside.marked i ≡ false)
    (λ n. (i : ℕ) → c.args.start ≤ i → i < n → has_bit c.args.self.now.marked i ≡ true → IsUnlogged c.args.self.now i)
    (λ n none i low high marked.
    let on : has_bit c.self.inside.marked i ≡ true = ap (λ (s : ShadeView). has_bit s.marked i) c.self.view_is ∙ marked in
    elim (cases_lt i c.max.result) [
      | inl less ↦
          absurd (both_ways (has_bit c.self.inside.marked i) (c.in-None.ensures.none i low (omega (arith, from, low, less))) on)
      | inr up ↦ absurd (both_ways (has_bit c.self.inside.marked i) (none i up high) on)
    ]) c.first.result c.first.ensures.first
