-- A sum over what a test of names passes, where the test passes one name more.
use Rattle.std.proofs.Common.{◌≡◌, ℕ, ◌+◌, ◌<◌, Bool, true, false, ◌||◌, if◌then◌else◌, List, [], ◌∷◌, refl, sym, ap}
use Rattle.std.proofs.Common.{◌∙◌, inl, inr, arith, sum_by, nat_eq, eq-eqb}
use Rattle.std.proofs.lemmas.Bool.{ne_eqb}
use Rattle.std.proofs.lemmas.List.Sums.{sum_by-cons}
use Rattle.clr_types.specs.Rising.{IsIn, IsRisingBy}
use Rattle.clr_types.proofs.ListSums.{counted, sum-on}
use Rattle.clr_types.proofs.RisingLists.{all_at, in_cons}

pub or_false : (b : Bool) → (b || false) ≡ b
or_false true = refl
or_false false = refl

or_true : (b : Bool) → (b || true) ≡ true
or_true true = refl
or_true false = refl

module _ {X : Type 0} (key weight : X → ℕ) (test : ℕ → Bool) (name : ℕ) (new : ℕ → Bool)
    (is : (n : ℕ) → new n ≡ (test n || nat_eq name n)) where
  abbrev before : X → ℕ
  before = counted (λ x. test (key x)) weight

  abbrev after : X → ℕ
  after = counted (λ x. new (key x)) weight

  -- an element of another name counts as before
  other : (x : X) → nat_eq name (key x) ≡ false → after x ≡ before x
  other x apart = ap (λ (b : Bool). if b then weight x else 0)
      (is (key x) ∙ ap (λ (b : Bool). test (key x) || b) apart ∙ or_false (test (key x)))

  -- SO THE SUM GROWS by what the one with the name counts
  pub sum-one_more : (x : X) (xs : List X) → IsRisingBy key xs → IsIn x xs → key x ≡ name → test name ≡ false
      → sum_by after xs ≡ sum_by before xs + weight x
  sum-one_more x [] rise i named fresh = elim i [ ]
  sum-one_more x (y ∷ xs) rise i named fresh =
      let now = sum_by-cons after y xs in
      let was = sum_by-cons before y xs in
      elim (in_cons i) [
        | inl same ↦
            let at : key y ≡ name = ap key (sym same) ∙ named in
            let told : new (key y) ≡ true =
            is (key y) ∙ ap (λ (b : Bool). test (key y) || b) (eq-eqb name (key y) (sym at)) ∙ or_true (test (key y)) in
            let here : after y ≡ weight y = ap (λ (b : Bool). if b then weight y else 0) told in
            let none : before y ≡ 0 = ap (λ (b : Bool). if b then weight y else 0) (ap test at ∙ fresh) in
            let rest : sum_by after xs ≡ sum_by before xs =
            sum-on after before xs (λ z j.
            other z (ne_eqb name (key z)
            (λ e. let low = all_at (λ w. key y < key w) j rise.0 in omega (arith, low, at, e)))) in
            let size = ap weight same in
            omega (arith, now, was, here, none, rest, size)
        | inr more ↦
            let here = other y (ne_eqb name (key y)
            (λ e. let low = all_at (λ w. key y < key w) more rise.0 in omega (arith, low, named, e))) in
            let rest = sum-one_more x xs rise.1 more named fresh in
            omega (arith, now, was, here, rest)
      ]
