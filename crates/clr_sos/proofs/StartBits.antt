-- Bits in words, and the places of objects.
use Rattle.std.proofs.Common.{◌≡◌, ℕ, ◌*◌, ◌/◌, ◌%◌, ◌^◌, ◌<◌, ◌==◌, ◌&&◌, ◌||◌, nat_eq, Bool, true, false, List, []}
use Rattle.std.proofs.Common.{◌∷◌, length, get_or, set, bit_or, bit_and, w64, refl, sym, ◌∙◌, ap, arith, inl, inr}
use Rattle.std.proofs.Common.{get_or-set_same, get_or-set_other}
use Rattle.std.specs.Int.{bit_at}
use Rattle.std.proofs.lemmas.Bool.{cases_eq, ne_eqb, eq-eqb, or_right}
use Rattle.std.proofs.lemmas.Nat.Bits.{bit_at-zero, bit_at_set_other, bit_at_set_same, shr_and_one}
use Rattle.clr_types.specs.declared.item.Item.{Item}
use Rattle.clr_view.specs.View.{is_object}
use Rattle.clr_sos.specs.Faults.{stands}
use Rattle.clr_sos.specs.Windows.{bit_of}

pub or_false : (b : Bool) → (b || false) ≡ b
or_false true = refl
or_false false = refl

pub bit_set : (bits : List ℕ) (i j : ℕ) → i / 64 < length bits
    → bit_of (set bits (i / 64) (bit_or (get_or bits (i / 64) 0) (1 * 2 ^ (i % 64) % 2 ^ 64))) j
    ≡ (bit_of bits j || nat_eq i j)
unfolding bit_of
bit_set bits i j l = elim (cases_eq (j / 64) (i / 64)) [
  | inl same ↦ elim (cases_eq (j % 64) (i % 64)) [
    | inl here ↦
        let at : j ≡ i = omega arith in
        let word : get_or (set bits (i / 64) new) (j / 64) 0 ≡ new =
        ap (λ (n : ℕ). get_or (set bits (i / 64) new) n 0) same ∙ get_or-set_same bits (i / 64) new 0 l in
        let bit : bit_at new (j % 64) ≡ 1 = ap (bit_at new) here ∙ bit_at_set_same w64 old (i % 64) (omega arith) in
        let eq : nat_eq i j ≡ true = eq-eqb i j (sym at) in
        ap (λ (w : ℕ). nat_eq (bit_at w (j % 64)) 1) word ∙ ap (λ (b : ℕ). nat_eq b 1) bit
        ∙ sym (ap (λ (b : Bool). nat_eq (bit_at (get_or bits (j / 64) 0) (j % 64)) 1 || b) eq
        ∙ or_right (nat_eq (bit_at (get_or bits (j / 64) 0) (j % 64)) 1) true refl)
    | inr apart ↦
        let word : get_or (set bits (i / 64) new) (j / 64) 0 ≡ new =
        ap (λ (n : ℕ). get_or (set bits (i / 64) new) n 0) same ∙ get_or-set_same bits (i / 64) new 0 l in
        let bit : bit_at new (j % 64) ≡ bit_at old (j % 64) =
        bit_at_set_other w64 old (i % 64) (omega arith) (j % 64) apart in
        let back : old ≡ get_or bits (j / 64) 0 = ap (λ (n : ℕ). get_or bits n 0) (sym same) in
        let eq : nat_eq i j ≡ false = ne_eqb i j (λ e. apart (ap (λ (n : ℕ). n % 64) (sym e))) in
        ap (λ (w : ℕ). nat_eq (bit_at w (j % 64)) 1) word
        ∙ ap (λ (b : ℕ). nat_eq b 1) (bit ∙ ap (λ (w : ℕ). bit_at w (j % 64)) back)
        ∙ sym (ap (λ (b : Bool). nat_eq (bit_at (get_or bits (j / 64) 0) (j % 64)) 1 || b) eq
        ∙ or_false (nat_eq (bit_at (get_or bits (j / 64) 0) (j % 64)) 1))
  ]
  | inr other ↦
      let word : get_or (set bits (i / 64) new) (j / 64) 0 ≡ get_or bits (j / 64) 0 =
      get_or-set_other bits (i / 64) (j / 64) new 0 other in
      let eq : nat_eq i j ≡ false = ne_eqb i j (λ e. other (ap (λ (n : ℕ). n / 64) (sym e))) in
      ap (λ (w : ℕ). nat_eq (bit_at w (j % 64)) 1) word
      ∙ sym (ap (λ (b : Bool). nat_eq (bit_at (get_or bits (j / 64) 0) (j % 64)) 1 || b) eq
      ∙ or_false (nat_eq (bit_at (get_or bits (j / 64) 0) (j % 64)) 1))
]
  where
    old : ℕ
    old = get_or bits (i / 64) 0

    new : ℕ
    new = bit_or old (1 * 2 ^ (i % 64) % 2 ^ 64)

pub bit_read : (bits : List ℕ) (i : ℕ) → nat_eq (bit_and (get_or bits (i / 64) 0 / 2 ^ (i % 64)) 1) 1 ≡ bit_of bits i
unfolding bit_of
bit_read bits i = ap (λ (b : ℕ). nat_eq b 1) (shr_and_one (get_or bits (i / 64) 0) (i % 64))

pub bit_clear : (bits : List ℕ) (j : ℕ) → get_or bits (j / 64) 0 ≡ 0 → bit_of bits j ≡ false
unfolding bit_of
bit_clear bits j e = ap (λ (w : ℕ). nat_eq (bit_at w (j % 64)) 1) e ∙ ap (λ (b : ℕ). nat_eq b 1) (bit_at-zero (j % 64))

-- ---- objects that stand

pub stands-one : (i : Item) (x : ℕ) → stands (i ∷ []) x ≡ ((i.place == x) && is_object i)
stands-one i x = or_false ((i.place == x) && is_object i)

pub or_assoc : (a b c : Bool) → ((a || b) || c) ≡ (a || (b || c))
or_assoc true b c = refl
or_assoc false b c = refl
