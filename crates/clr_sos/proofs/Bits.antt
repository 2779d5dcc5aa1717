-- A bit more in a set of numbers.
use Rattle.std.proofs.Common.{◌≡◌, ◌≢◌, inl, inr, ℕ, ◌*◌, ◌^◌, ◌/◌, ◌%◌, ◌<◌, ◌||◌, true, List, length, get_or, set}
use Rattle.std.proofs.Common.{eqb}
use Rattle.std.proofs.Common.{ap, sym, ◌∙◌, arith, bit_or, w64, nat_eq, get_or-set_same, get_or-set_other}
use Rattle.std.specs.Int.{bit_at}
use Rattle.std.proofs.lemmas.Bool.{cases_Bool, cases_eq, eqb-true, eqb-false}
use Rattle.std.proofs.lemmas.List.{get_or_default}
use Rattle.std.proofs.lemmas.Nat.Bits.{bit_at_set_same, bit_at_set_other}
use Rattle.clr_sos.specs.Bits.{has_bit}

module _ (words : List ℕ) (n word : ℕ) (room : n < 64 * length words) (read : word ≡ get_or words (n / 64) word) where
  -- the word with the bit
  abbrev new : ℕ
  new = bit_or word (1 * 2 ^ (n % 64) % 2 ^ 64)

  inside : n / 64 < length words
  inside = omega (arith, room)

  short : n % 64 < 64
  short = omega arith

  -- the bit is there
  same-bit : has_bit (set words (n / 64) new) n ≡ true
  same-bit =
      let here : get_or (set words (n / 64) new) (n / 64) 0 ≡ new = get_or-set_same words (n / 64) new 0 inside in
      ap (λ (w : ℕ). nat_eq (bit_at w (n % 64)) 1) here
      ∙ ap (λ (b : ℕ). nat_eq b 1) (bit_at_set_same w64 word (n % 64) short)

  -- and all others are as they were
  other-bit : (i : ℕ) → i ≢ n → has_bit (set words (n / 64) new) i ≡ has_bit words i
  other-bit i ne = elim (cases_eq (i / 64) (n / 64)) [
    | inl near ↦
        let apart : i % 64 ≢ n % 64 = λ e. ne (omega (arith, near, e)) in
        let here : get_or (set words (n / 64) new) (n / 64) 0 ≡ new = get_or-set_same words (n / 64) new 0 inside in
        let was : word ≡ get_or words (n / 64) 0 = read ∙ get_or_default words (n / 64) word 0 inside in
        ap (λ (k : ℕ). nat_eq (bit_at (get_or (set words (n / 64) new) k 0) (i % 64)) 1) near
        ∙ ap (λ (w : ℕ). nat_eq (bit_at w (i % 64)) 1) here
        ∙ ap (λ (b : ℕ). nat_eq b 1) (bit_at_set_other w64 word (n % 64) short (i % 64) apart)
        ∙ ap (λ (w : ℕ). nat_eq (bit_at w (i % 64)) 1) was
        ∙ ap (λ (k : ℕ). nat_eq (bit_at (get_or words k 0) (i % 64)) 1) (sym near)
    | inr far ↦ ap (λ (w : ℕ). nat_eq (bit_at w (i % 64)) 1) (get_or-set_other words (n / 64) (i / 64) new 0 far)
  ]

  pub bit_added : (i : ℕ) → has_bit (set words (n / 64) new) i ≡ (nat_eq i n || has_bit words i)
  bit_added i = elim (cases_Bool (eqb i n)) [
    | inl is ↦ rw is (ap (has_bit (set words (n / 64) new)) (eqb-true i n is) ∙ same-bit)
    | inr other ↦ rw other (other-bit i (eqb-false i n other))
  ]

-- THE SAME AS CODE DOES IT: the word was read, and written with the bit
pub bit_more : (words : List ℕ) (n word : ℕ) (now : List ℕ) → n < 64 * length words
    → word ≡ get_or words (n / 64) 0 → now ≡ set words (n / 64) (bit_or word (1 * 2 ^ (n % 64) % 2 ^ 64))
    → (i : ℕ) → has_bit now i ≡ (nat_eq i n || has_bit words i)
bit_more words n word now room read written i =
    let same : word ≡ get_or words (n / 64) word =
    read ∙ get_or_default words (n / 64) 0 word (omega (arith, room)) in
    ap (λ (ws : List ℕ). has_bit ws i) written ∙ bit_added words n word room same i
