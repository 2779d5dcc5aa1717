-- The search for a bit of a word, by the number of its lowest zeros.
use Rattle.std.proofs.Common.{◌≡◌, ◌⊎◌, inl, inr, ℕ, ◌+◌, ◌-◌, ◌*◌, ◌/◌, ◌%◌, ◌^◌, ◌<◌, ◌≤◌, ◌&&◌, not, true}
use Rattle.std.proofs.Common.{false, Bool}
use Rattle.std.proofs.Common.{List, get_or, refl, ap, sym, ◌∙◌, arith, bit_and, min, w64, nat_eq}
use Rattle.std.specs.Int.{bit_at, bit_not, trailing_zeros}
use Rattle.std.proofs.lemmas.Bool.{cases_eq, cases_lt, eq-eqb, eqb-true, ne_eqb}
use Rattle.std.proofs.lemmas.Nat.{shr-shr, shr_le}
use Rattle.std.proofs.lemmas.Nat.Bits.{bit_at-lt, bit_at-trailing_zeros, bit_at-zero, bit_at_above, bit_at_and}
use Rattle.std.proofs.lemmas.Nat.Bits.{bit_at_not}
use Rattle.clr_bgmark.specs.Bits.{has_bit}

module _ (word n : ℕ) (fits : word < 2 ^ 64) where
  abbrev rest : ℕ
  rest = word / 2 ^ (n % 64)

  -- a bit of what is left of the word
  rest_bit : (j : ℕ) → bit_at rest j ≡ bit_at word (n % 64 + j)
  rest_bit j = ap (λ x. x % 2) (shr-shr word (n % 64) j)

  -- the first number from n on that is among those of the word, and in it
  pub record IsFirstIn (m : ℕ) : Type 0 where
    pub low : n ≤ m
    pub near : m / 64 ≡ n / 64
    pub here : bit_at word (m % 64) ≡ 1
    pub first : (i : ℕ) → n ≤ i → i < m → bit_at word (i % 64) ≡ 0

  pub first_told : (t : ℕ) → 0 < rest → t ≡ trailing_zeros w64 rest → IsFirstIn (n + t)
  first_told t some is =
      let less : rest ≤ word = shr_le word (n % 64) in
      let z = bit_at-trailing_zeros w64 rest some (omega (arith, less, fits)) in
      let there : bit_at rest t ≡ 1 = ap (bit_at rest) is ∙ z.1 in
      go (cases_lt (n % 64 + t) 64) there (λ i l. z.2 i (omega (arith, l, is)))
    where
      go : (n % 64 + t < 64) ⊎ (64 ≤ n % 64 + t) → bit_at rest t ≡ 1 → ((i : ℕ) → i < t → bit_at rest i ≡ 0)
          → IsFirstIn (n + t)
      go (inl inside) there before = record {
        low = omega arith;
        near = omega (arith, inside);
        here =
            let at : (n + t) % 64 ≡ n % 64 + t = omega (arith, inside) in
            ap (bit_at word) at ∙ sym (rest_bit t) ∙ there;
        first = λ i low high.
            let at : i % 64 ≡ n % 64 + (i - n) = omega (arith, inside, low, high) in
            ap (bit_at word) at ∙ sym (rest_bit (i - n)) ∙ before (i - n) (omega (arith, low, high));
      }
      go (inr outside) there before =
          let zero = bit_at_above word 64 (n % 64 + t) fits outside in
          let same = rest_bit t in
          absurd (omega (arith, zero, same, there))

  -- where nothing is left, none is
  pub none_told : rest ≡ 0 → (i : ℕ) → n ≤ i → i / 64 ≡ n / 64 → bit_at word (i % 64) ≡ 0
  none_told empty i low near =
      let at : i % 64 ≡ n % 64 + (i - n) = omega (arith, low, near) in
      ap (bit_at word) at ∙ sym (rest_bit (i - n)) ∙ ap (λ w. bit_at w (i - n)) empty ∙ bit_at-zero (i - n)

-- ---- in one set and not in another

module _ (a b i : ℕ) (fits : b < 2 ^ 64) (within : i < 64) where
  both : bit_at (bit_and a (bit_not w64 b)) i ≡ min (bit_at a i) (1 - bit_at b i)
  both = bit_at_and a (bit_not w64 b) i ∙ ap (min (bit_at a i)) (bit_at_not w64 b i fits within)

  pub beside_one : bit_at (bit_and a (bit_not w64 b)) i ≡ 1 → (bit_at a i ≡ 1) × (bit_at b i ≡ 0)
  beside_one e =
      let is = both in let low = bit_at-lt a i in let lower = bit_at-lt b i in
      (omega (arith, e, is, low, lower), omega (arith, e, is, low, lower))

  pub beside_zero : bit_at (bit_and a (bit_not w64 b)) i ≡ 0 → (bit_at a i ≡ 0) ⊎ (bit_at b i ≡ 1)
  beside_zero e = go (cases_eq (bit_at a i) 0)
    where
      go : (bit_at a i ≡ 0) ⊎ (bit_at a i ≡ 0 → ⊥) → (bit_at a i ≡ 0) ⊎ (bit_at b i ≡ 1)
      go (inl none) = inl none
      go (inr some) =
          let is = both in let low = bit_at-lt a i in let lower = bit_at-lt b i in
          inr (omega (arith, e, is, low, lower, some))

-- `rest` are the bits of word k of a set that the other one lacks: it has none exactly where the other one has all
module _ (xs ys : List ℕ) (k one other rest : ℕ) (is_one : one ≡ get_or xs k 0) (is_other : other ≡ get_or ys k 0)
    (fits : rest < 2 ^ 64)
    (has : (i : ℕ) → i < 64 → bit_at rest i ≡ 1 → (bit_at one i ≡ 1) × (bit_at other i ≡ 0))
    (lacks : (i : ℕ) → i < 64 → bit_at rest i ≡ 0 → (bit_at one i ≡ 0) ⊎ (bit_at other i ≡ 1)) where
  pub none_left : rest ≡ 0 → (n : ℕ) → 64 * k ≤ n → n < 64 * k + 64 → has_bit xs n ≡ true → has_bit ys n ≡ true
  none_left empty n low high on =
      let number : n / 64 ≡ k = omega (arith, low, high) in
      let there : bit_at one (n % 64) ≡ 1 =
      ap (λ (w : ℕ). bit_at w (n % 64)) is_one ∙ (λ j. bit_at (get_or xs (sym number j) 0) (n % 64))
      ∙ eqb-true (bit_at (get_or xs (n / 64) 0) (n % 64)) 1 on in
      elim (lacks (n % 64) (omega arith) (ap (λ (w : ℕ). bit_at w (n % 64)) empty ∙ bit_at-zero (n % 64))) [
        | inl off ↦ absurd (omega (arith, off, there))
        | inr is ↦ ap (λ (b : ℕ). nat_eq b 1)
            ((λ j. bit_at (get_or ys (number j) 0) (n % 64))
            ∙ ap (λ (w : ℕ). bit_at w (n % 64)) (sym is_other) ∙ is)
      ]

  pub left_none : ((n : ℕ) → 64 * k ≤ n → n < 64 * k + 64 → has_bit xs n ≡ true → has_bit ys n ≡ true) → rest ≡ 0
  left_none all = elim (cases_eq rest 0) [
    | inl empty ↦ empty
    | inr ne ↦
        let z = bit_at-trailing_zeros w64 rest (omega (arith, ne)) fits in
        let i : ℕ = trailing_zeros w64 rest in
        let low : i < 64 = z.0 in
        let (on, off) = has i low z.1 in
        let n : ℕ = 64 * k + i in
        let number : n / 64 ≡ k = omega (arith, low) in
        let bit : n % 64 ≡ i = omega (arith, low) in
        let listed : has_bit xs n ≡ true =
        (λ j. nat_eq (bit_at (get_or xs (number j) 0) (bit j)) 1)
        ∙ ap (λ (w : ℕ). nat_eq (bit_at w i) 1) (sym is_one) ∙ ap (λ (b : ℕ). nat_eq b 1) on in
        let too : has_bit ys n ≡ true = all n (omega arith) (omega (arith, low)) listed in
        let on_too : bit_at other i ≡ 1 =
        ap (λ (w : ℕ). bit_at w i) is_other ∙ (λ j. bit_at (get_or ys (sym number j) 0) (sym bit j))
        ∙ eqb-true (bit_at (get_or ys (n / 64) 0) (n % 64)) 1 too in
        absurd (omega (arith, off, on_too))
  ]
