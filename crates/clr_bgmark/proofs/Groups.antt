-- Sets of numbers of which each 64 have a bit that says whether any is in the set.
use Rattle.std.proofs.Common.{◌≡◌, ℕ, ◌+◌, ◌*◌, ◌/◌, ◌<◌, ◌≤◌, ◌||◌, inl, inr, List}
use Rattle.std.proofs.Common.{ap, sym, ◌∙◌, arith, Bool, true, false, min, nat_eq, refl}
use Rattle.std.proofs.lemmas.Bool.{both_ways, cases_Bool, cases_lt, eqb-true, eq-eqb}
use Rattle.clr_bgmark.specs.Bits.{has_bit}
use Rattle.clr_bgmark.specs.Pending.{AreGrouped}

-- ---- the next number

module _ (numbers groups : List ℕ) (grouped : AreGrouped numbers groups) where
  pub none_in_group : (n : ℕ) → has_bit groups (n / 64) ≡ false → has_bit numbers n ≡ false
  none_in_group n off = elim (cases_Bool (has_bit numbers n)) [
    | inl on ↦ absurd (both_ways (has_bit groups (n / 64)) off (grouped n on))
    | inr f ↦ f
  ]

  -- none of a part of the first group, of the groups behind it and of those behind these
  pub none_up_to : (from past m group stop : ℕ) → m ≡ min (from / 64 * 64 + 64) past → stop ≤ past
      → ((i : ℕ) → from ≤ i → i < m → has_bit numbers i ≡ false)
      → ((g : ℕ) → from / 64 + 1 ≤ g → g < group → has_bit groups g ≡ false)
      → ((i : ℕ) → 64 * group ≤ i → i < stop → has_bit numbers i ≡ false)
      → (n : ℕ) → from ≤ n → n < stop → has_bit numbers n ≡ false
  none_up_to from past m group stop is most near between late n low high =
      elim (cases_lt n (from / 64 * 64 + 64)) [
        | inl inside ↦ near n low (omega (arith, is, most, high, inside))
        | inr outside ↦ elim (cases_lt (n / 64) group) [
          | inl before ↦ none_in_group n (between (n / 64) (omega (arith, outside)) before)
          | inr behind ↦ late n (omega (arith, behind)) high
        ]
      ]

-- ---- a number that is put in

or_right : (b c : Bool) → c ≡ true → (b || c) ≡ true
or_right true c e = refl
or_right false c e = e

module _ (old new : List ℕ) (n : ℕ) (more : (i : ℕ) → has_bit new i ≡ (nat_eq i n || has_bit old i)) where
  pub grouped_more : (olds news : List ℕ)
      → ((i : ℕ) → has_bit news i ≡ (nat_eq i (n / 64) || has_bit olds i)) → AreGrouped old olds → AreGrouped new news
  grouped_more olds news mores grouped i on = elim (cases_Bool (nat_eq i n)) [
    | inl is ↦
        let here : nat_eq (i / 64) (n / 64) ≡ true = eq-eqb (i / 64) (n / 64) (ap (λ (k : ℕ). k / 64) (eqb-true i n is)) in
        mores (i / 64) ∙ ap (λ b. b || has_bit olds (i / 64)) here
    | inr other ↦
        let was : has_bit old i ≡ true = sym (more i ∙ ap (λ b. b || has_bit old i) other) ∙ on in
        mores (i / 64) ∙ or_right (nat_eq (i / 64) (n / 64)) (has_bit olds (i / 64)) (grouped i was)
  ]

  pub above_more : (lowest : ℕ) → ((i : ℕ) → has_bit old i ≡ true → lowest ≤ i) → (i : ℕ) → has_bit new i ≡ true
      → min lowest n ≤ i
  above_more lowest above i on = elim (cases_Bool (nat_eq i n)) [
    | inl is ↦ let at = eqb-true i n is in omega (arith, at)
    | inr other ↦
        let was : has_bit old i ≡ true = sym (more i ∙ ap (λ b. b || has_bit old i) other) ∙ on in
        let low = above i was in
        omega (arith, low)
  ]

-- a number that is in a set is put in
pub more_same : (old : List ℕ) (n : ℕ) → has_bit old n ≡ true → (i : ℕ)
    → has_bit old i ≡ (nat_eq i n || has_bit old i)
more_same old n here i = elim (cases_Bool (nat_eq i n)) [
  | inl is ↦ ap (has_bit old) (eqb-true i n is) ∙ here ∙ sym (ap (λ b. b || has_bit old i) is)
  | inr other ↦ sym (ap (λ b. b || has_bit old i) other)
]
