use Rattle.std.proofs.Common.{ℕ, inl, inr, get_or, arith, subst, sym, refl}
use Rattle.std.proofs.lemmas.Bool.{both_ways, cases_eq}
use Rattle.clr_mark.proofs.Rooting.{at_in, in_at}
use Rattle.clr_bgmark.specs.Closing.{IsNullOrFound}
use Rattle.clr_bgmark.proofs.background.Background.are_found.Goals as goal

pub loop-place-init : goal.loop-place-init
loop-place-init c j low = absurd (omega (arith, low))

pub loop-place-preserved : goal.loop-place-preserved
loop-place-preserved c j low = elim (cases_eq j c.loop-place.place-index) [
  | inl last ↦
      subst (λ (n : ℕ). IsNullOrFound c.args.self.now.shades (get_or c.args.places.now n 0)) (sym last)
      (c.is_null_or_found.ensures.0 c.if-not-is_null_or_found.false)
  | inr other ↦ c.loop-place.invariant j (omega (arith, low, other))
]

pub returns : goal.returns
returns c = (
  (λ sure x i.
      let low = c.loop-place-test.false in
      let high = c.loop-place.auto.place-index-end in
      let (j, below, is) = in_at c.args.places.now x 0 i in
      subst (IsNullOrFound c.args.self.now.shades) is (c.loop-place.invariant j (omega (arith, low, high, below)))),
  (λ all. refl),
)

pub returns-then-not-is_null_or_found : goal.returns-then-not-is_null_or_found
returns-then-not-is_null_or_found c = (
  (λ sure. absurd cc),
  (λ all.
      let below = c.loop-place-test.true in
      let high = c.loop-place.auto.place-index-end in
      absurd (both_ways c.is_null_or_found.result c.if-not-is_null_or_found.true
      (c.is_null_or_found.ensures.1 (all (get_or c.args.places.now c.loop-place.place-index 0)
      (at_in c.args.places.now c.loop-place.place-index 0 (omega (arith, below, high))))))),
)
