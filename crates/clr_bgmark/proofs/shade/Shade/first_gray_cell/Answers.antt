use Rattle.std.proofs.Common.{◌≡◌, ℕ, ◌*◌, ◌/◌, ◌<◌, ◌≤◌, inl, inr, false, arith, sym, ap, ◌∙◌}
use Rattle.std.proofs.lemmas.Bool.{cases_lt}
use Rattle.clr_bgmark.specs.Shades.{is_gray_cell, is_gray_number, ShadeView}
use Rattle.clr_bgmark.proofs.GrayPlaces.{none_under}
use Rattle.clr_bgmark.proofs.shade.Shade.first_gray_cell.Goals as goal

pub returns-in-Some-clause-first : goal.returns-in-Some-clause-first
returns-in-Some-clause-first c i low high =
    let most = c.in-Some.ensures.high in
    let from = c.max.ensures in
    let whole = c.self.invariant.shade.size in
    let lowest = c.min-low.ensures in
    ap (λ (s : ShadeView). is_gray_cell s i) (sym c.self.view_is)
    ∙ elim (cases_lt i (64 * c.min-low.result)) as (λ _. is_gray_number c.self.inside.marked c.self.inside.scanned i
    ≡ false) [
      | inl less ↦
          none_under c.self.inside.marked c.self.inside.scanned c.self.inside.pending.numbers c.lowest.result
          (c.self.inside.size / 512) c.lowest.ensures.above
          (λ n under gray. c.self.invariant.pending n (omega (arith, under, whole)) gray) i
          (omega (arith, high, most, whole)) (omega (arith, less, lowest))
      | inr up ↦ c.in-Some.ensures.first i (omega (arith, from, low, up)) high
    ]

pub returns-in-None-clause-none : goal.returns-in-None-clause-none
returns-in-None-clause-none c i low high =
    let size = ap (λ (s : ShadeView). s.size) c.self.view_is in
    let from = c.max.ensures in
    let whole = c.self.invariant.shade.size in
    let lowest = c.min-low.ensures in
    ap (λ (s : ShadeView). is_gray_cell s i) (sym c.self.view_is)
    ∙ elim (cases_lt i (64 * c.min-low.result)) as (λ _. is_gray_number c.self.inside.marked c.self.inside.scanned i
    ≡ false) [
      | inl less ↦
          none_under c.self.inside.marked c.self.inside.scanned c.self.inside.pending.numbers c.lowest.result
          (c.self.inside.size / 512) c.lowest.ensures.above
          (λ n under gray. c.self.invariant.pending n (omega (arith, under, whole)) gray) i
          (omega (arith, high, size, whole)) (omega (arith, less, lowest))
      | inr up ↦ c.in-None.ensures.none i (omega (arith, from, low, up)) (omega (arith, high, size))
    ]
