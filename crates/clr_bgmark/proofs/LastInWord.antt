-- The search for the last bit of a word, by the number of its highest zeros.
use Rattle.std.proofs.Common.{◌≡◌, ◌⊎◌, inl, inr, ℕ, suc, ◌+◌, ◌-◌, ◌*◌, ◌/◌, ◌%◌, ◌^◌, ◌<◌, ◌≤◌, ap, sym, ◌∙◌}
use Rattle.std.proofs.Common.{arith, refl, w64}
use Rattle.std.specs.Int.{bit_at, leading_zeros}
use Rattle.std.proofs.Math.Nat.{pow-suc}
use Rattle.std.proofs.lemmas.Bool.{cases_lt}
use Rattle.std.proofs.lemmas.Nat.{div-add-mod', leading_top, pow_pos}
use Rattle.std.proofs.lemmas.Nat.Bits.{bit_at-zero, bit_at_above, bit_at_cat_high, bit_at_cat_low}

-- the place of the highest 1 of a number
record IsHighest (a j : ℕ) : Type 0 where
  pub here : bit_at a j ≡ 1
  pub above : (i : ℕ) → j < i → bit_at a i ≡ 0

highest : (a j : ℕ) → 2 ^ j ≤ a → a < 2 ^ suc j → IsHighest a j
highest a j low high = record {
  here =
      let short : a - 2 ^ j < 2 ^ j = omega (arith, low, high, pow-suc 2 j) in
      let parts : a ≡ 1 * 2 ^ j + (a - 2 ^ j) = omega (arith, low) in
      let none : j - j ≡ 0 = omega arith in
      ap (λ b. bit_at b j) parts ∙ bit_at_cat_high 1 j (a - 2 ^ j) j short (omega arith) ∙ ap (bit_at 1) none;
  above = λ i l. bit_at_above a (suc j) i high (omega (arith, l));
}

module _ (word n : ℕ) where
  abbrev up : ℕ
  up = 63 - n % 64

  abbrev rest : ℕ
  rest = word * 2 ^ (63 - n % 64) % 2 ^ 64

  -- a bit of the word that is shifted up
  kept : (j : ℕ) → j < 64 → bit_at rest j ≡ bit_at (word * 2 ^ up + 0) j
  kept j within =
      let x : ℕ = word * 2 ^ up in
      let same : x ≡ x + 0 = omega arith in
      sym (bit_at_cat_low (x / 2 ^ 64) 64 (x % 2 ^ 64) j within) ∙ ap (λ b. bit_at b j) (div-add-mod' x (2 ^ 64) ∙ same)

  rest_bit : (j : ℕ) → j < 64 → up ≤ j → bit_at rest j ≡ bit_at word (j - up)
  rest_bit j within high = kept j within ∙ bit_at_cat_high word up 0 j (pow_pos up) high

  rest_low : (j : ℕ) → j < up → bit_at rest j ≡ 0
  rest_low j low = kept j (omega (arith, low)) ∙ bit_at_cat_low word up 0 j low ∙ bit_at-zero j

  -- a number of the word up to n, as a bit of what is left
  bit_below : (i : ℕ) → i ≤ n → i / 64 ≡ n / 64 → bit_at word (i % 64) ≡ bit_at rest (i % 64 + up)
  bit_below i low near =
      let at : i % 64 ≡ i % 64 + up - up = omega arith in
      ap (bit_at word) at ∙ sym (rest_bit (i % 64 + up) (omega (arith, low, near)) (omega arith))

  -- the last number up to n that is among those of the word, and in it
  pub record IsLastIn (m : ℕ) : Type 0 where
    pub high : m ≤ n
    pub near : m / 64 ≡ n / 64
    pub here : bit_at word (m % 64) ≡ 1
    pub last : (i : ℕ) → m < i → i ≤ n → bit_at word (i % 64) ≡ 0

  pub last_told : (t : ℕ) → 0 < rest → t ≡ leading_zeros w64 rest → (t ≤ n) × IsLastIn (n - t)
  last_told t some is =
      let (j, count, low, high) = leading_top 64 rest some (omega arith) in
      let top = highest rest j low high in
      let all : t + suc j ≡ 64 = ap (λ z. z + suc j) is ∙ count in
      go j all top (cases_lt j up)
    where
      go : (j : ℕ) → t + suc j ≡ 64 → IsHighest rest j → (j < up) ⊎ (up ≤ j) → (t ≤ n) × IsLastIn (n - t)
      go j all top (inl under) =
          let none = rest_low j under in
          let one = top.here in
          absurd (omega (arith, none, one))
      go j all top (inr over) =
          let near : (n - t) / 64 ≡ n / 64 = omega (arith, all, over) in
          let at : (n - t) % 64 + up ≡ j = omega (arith, all, over) in (
            omega (arith, all, over),
            record {
              high = omega arith;
              near = near;
              here = bit_below (n - t) (omega arith) near ∙ ap (bit_at rest) at ∙ top.here;
              last = λ i further within.
                  let same : i / 64 ≡ n / 64 = omega (arith, near, further, within) in
                  bit_below i within same ∙ top.above (i % 64 + up) (omega (arith, all, over, further, within));
            },
          )

  -- where nothing is left, none is
  pub none_last : rest ≡ 0 → (i : ℕ) → i ≤ n → i / 64 ≡ n / 64 → bit_at word (i % 64) ≡ 0
  none_last empty i low near = bit_below i low near ∙ ap (λ w. bit_at w (i % 64 + up)) empty ∙ bit_at-zero (i % 64 + up)
