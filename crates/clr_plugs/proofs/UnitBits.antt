-- An offset more in words of bits.
use Rattle.std.proofs.Common.{◌≡◌, ◌≢◌, inl, inr, ℕ, ◌*◌, ◌^◌, ◌/◌, ◌%◌, ◌<◌, ◌||◌, true, false, List, length, get_or}
use Rattle.std.proofs.Common.{eqb}
use Rattle.std.proofs.Common.{replicate, ap, sym, ◌∙◌, arith, bit_or, w64, nat_eq, get_or-set_same, get_or-set_other}
use Rattle.std.specs.Int.{bit_at}
use Rattle.std.proofs.lemmas.Bool.{cases_Bool, cases_eq, cases_lt, eqb-true, eqb-false}
use Rattle.std.proofs.lemmas.List.{get_or-replicate, get_or_past, length-replicate}
use Rattle.std.proofs.lemmas.Nat.Bits.{bit_at-zero, bit_at_set_same, bit_at_set_other}
use Rattle.clr_plugs.specs.Offsets.{has_unit, with_unit}

module _ (words : List ℕ) (n : ℕ) (room : n < 64 * length words) where
  abbrev word : ℕ
  word = get_or words (n / 64) 0

  abbrev new : ℕ
  new = bit_or word (1 * 2 ^ (n % 64) % 2 ^ 64)

  inside : n / 64 < length words
  inside = omega (arith, room)

  short : n % 64 < 64
  short = omega arith

  here : get_or (with_unit words n) (n / 64) 0 ≡ new
  here = get_or-set_same words (n / 64) new 0 inside

  same-bit : has_unit (with_unit words n) n ≡ true
  same-bit =
      ap (λ (w : ℕ). nat_eq (bit_at w (n % 64)) 1) here
      ∙ ap (λ (b : ℕ). nat_eq b 1) (bit_at_set_same w64 word (n % 64) short)

  other-bit : (i : ℕ) → i ≢ n → has_unit (with_unit words n) i ≡ has_unit words i
  other-bit i ne = elim (cases_eq (i / 64) (n / 64)) [
    | inl near ↦
        let apart : i % 64 ≢ n % 64 = λ e. ne (omega (arith, near, e)) in
        ap (λ (k : ℕ). nat_eq (bit_at (get_or (with_unit words n) k 0) (i % 64)) 1) near
        ∙ ap (λ (w : ℕ). nat_eq (bit_at w (i % 64)) 1) here
        ∙ ap (λ (b : ℕ). nat_eq b 1) (bit_at_set_other w64 word (n % 64) short (i % 64) apart)
        ∙ ap (λ (k : ℕ). nat_eq (bit_at (get_or words k 0) (i % 64)) 1) (sym near)
    | inr far ↦ ap (λ (w : ℕ). nat_eq (bit_at w (i % 64)) 1) (get_or-set_other words (n / 64) (i / 64) new 0 far)
  ]

  pub unit_added : (i : ℕ) → has_unit (with_unit words n) i ≡ (nat_eq i n || has_unit words i)
  unit_added i = elim (cases_Bool (eqb i n)) [
    | inl is ↦ rw is (ap (has_unit (with_unit words n)) (eqb-true i n is) ∙ same-bit)
    | inr other ↦ rw other (other-bit i (eqb-false i n other))
  ]

-- words of zeros have no offset
pub none_set : (k n : ℕ) → has_unit (replicate k 0) n ≡ false
none_set k n = ap (λ (w : ℕ). nat_eq (bit_at w (n % 64)) 1) (zero-word k (n / 64))
    ∙ ap (λ (b : ℕ). nat_eq b 1) (bit_at-zero (n % 64))
  where
    zero-word : (k i : ℕ) → ◌≡◌ {A = ℕ} (get_or (replicate k 0) i 0) 0
    zero-word k i = elim (cases_lt i k) [
      | inl less ↦ get_or-replicate k i 0 0 less
      | inr past ↦ let len = length-replicate {A = ℕ} k 0 in get_or_past (replicate k 0) i 0 (omega (arith, len, past))
    ]
