use Rattle.std.proofs.Common.{◌≡◌, ℕ, ◌+◌, ◌*◌, refl, subst, sym, arith, inl, inr, w64}
use Rattle.std.specs.Int.{bit_at, trailing_zeros}
use Rattle.std.proofs.lemmas.Bool.{both_ways}
use Rattle.std.proofs.lemmas.Nat.Bits.{bit_at-trailing_zeros, bit_at-zero}
use Rattle.clr_heap.specs.View.{word_of}
use Rattle.clr_bgmark.specs.Settling.{IsFreeGap}
use Rattle.clr_bgmark.proofs.EachMarked.{rest_only, rest_others}
use Rattle.clr_bgmark.proofs.front.are_free.Goals as goal

pub loop-rest-init : goal.loop-rest-init
loop-rest-init c = record { left = λ i on. inl on; among = λ i on. on }

pub loop-rest-preserved : goal.loop-rest-preserved
loop-rest-preserved c =
    let rest = c.loop-rest.rest in
    let more = c.loop-rest-test.true in
    let fits = c.loop-rest.auto.rest-fits.fits in
    let inv = c.loop-rest.invariant in
    record {
      left = λ i on. elim (inv.left i on) [
        | inl left ↦ elim (rest_others rest (omega arith) fits (trailing_zeros w64 rest) i refl left) [
          | inl e ↦ inr (subst (λ (n : ℕ). IsFreeGap (word_of c.args.heap.now) c.args.shade.now (c.args.place + 8 * n))
              (sym e) (c.is_free.ensures.0 c.if-not-is_free.false))
          | inr later ↦ inl later
        ]
        | inr free ↦ inr free
      ];
      among = λ i on. inv.among i (rest_only rest (omega arith) fits i on);
    }

pub returns : goal.returns
returns c = (
  (λ sure i low on. elim (c.loop-rest.invariant.left i on) [
    | inl left ↦
        let none = bit_at-zero i in
        let zero = c.loop-rest-test.false in
        let off = subst (λ (w : ℕ). bit_at w i ≡ 1) zero left in
        absurd (omega (arith, none, off))
    | inr free ↦ free
  ]),
  (λ all. refl),
)

pub returns-then-not-is_free : goal.returns-then-not-is_free
returns-then-not-is_free c = (
  (λ sure. absurd cc),
  (λ all.
      let rest = c.loop-rest.rest in
      let more = c.loop-rest-test.true in
      let z = bit_at-trailing_zeros w64 rest (omega arith) c.loop-rest.auto.rest-fits.fits in
      absurd (both_ways c.is_free.result c.if-not-is_free.true
      (c.is_free.ensures.1 (all (trailing_zeros w64 rest) z.0
      (c.loop-rest.invariant.among (trailing_zeros w64 rest) z.1))))),
)
