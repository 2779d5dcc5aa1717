-- Bits of a range, and the places that they stand for.
use Rattle.std.proofs.Common.{◌≡◌, ℕ, ◌/◌, ◌%◌, ◌<◌, ◌==◌, ◌&&◌, ◌||◌, nat_eq, Bool, true, false, List}
use Rattle.std.proofs.Common.{get_or, refl, sym, ◌∙◌, ap, arith, inl, inr}
use Rattle.std.proofs.Common.{◌-◌, ◌≤◌, ◌⊎◌, nat_le, replicate}
use Rattle.std.proofs.lemmas.List.{get_or-replicate, get_or_past, length-replicate}
use Rattle.std.proofs.lemmas.Bool.{cases_eq, cases_lt, le-leb, ne_eqb, eq-eqb}
use Rattle.clr_load.specs.declared.starts.Range.{Range}
use Rattle.clr_load.specs.Starts.{has_place}
use Rattle.clr_sos.specs.Windows.{bit_of}
use Rattle.clr_sos.proofs.StartBits.{bit_clear}

-- ---- ranges

-- the place of a word is its bit's
pub bit_is_place : (first place x : ℕ) → first ≤ place → (place - first) % 8 ≡ 0 → first ≤ x → (x - first) % 8 ≡ 0
    → nat_eq ((place - first) / 8) ((x - first) / 8) ≡ (place == x)
bit_is_place first place x low z up zx = elim (cases_eq place x) [
  | inl same ↦
      let bit : (place - first) / 8 ≡ (x - first) / 8 = ap (λ (n : ℕ). (n - first) / 8) same in
      eq-eqb ((place - first) / 8) ((x - first) / 8) bit ∙ sym (eq-eqb place x same)
  | inr other ↦
      let apart : ((place - first) / 8 ≡ (x - first) / 8 → ⊥) = λ e. other (omega (arith, e)) in
      ne_eqb ((place - first) / 8) ((x - first) / 8) apart ∙ sym (ne_eqb place x other)
]

pub marked_place : (old new : Range) (place x : ℕ) → new.first ≡ old.first → old.first ≤ place
    → (place - old.first) % 8 ≡ 0
    → ((j : ℕ) → bit_of new.bits.items j ≡ (bit_of old.bits.items j || nat_eq ((place - old.first) / 8) j))
    → has_place new x ≡ (has_place old x || (place == x))
unfolding has_place
marked_place old new place x first low z bits = elim (cases_lt x old.first) [
  | inr up ↦ elim (cases_eq ((x - old.first) % 8) 0) [
    | inl zx ↦
        let on : nat_le old.first x ≡ true = le-leb old.first x up in
        let even : ((x - old.first) % 8 == 0) ≡ true = eq-eqb ((x - old.first) % 8) 0 zx in
        let bit = bits ((x - old.first) / 8) in
        let same = bit_is_place old.first place x low z up zx in
        rw (first, on, even, bit, same) refl
    | inr odd ↦
        let off : ((x - old.first) % 8 == 0) ≡ false = ne_eqb ((x - old.first) % 8) 0 odd in
        let apart : (place ≡ x → ⊥) = λ e. odd (ap (λ (n : ℕ). (n - old.first) % 8) (sym e) ∙ z) in
        let not_here : (place == x) ≡ false = ne_eqb place x apart in
        rw (first, off, not_here) (go (nat_le old.first x))
  ]
  | inl down ↦
      let off : nat_le old.first x ≡ false = grind (arith, down) in
      let apart : (place ≡ x → ⊥) = λ e. (omega (arith, e)) in
      let not_here : (place == x) ≡ false = ne_eqb place x apart in
      rw (first, off, not_here) refl
]
  where
    go : (b : Bool) → ((b && false) && bit_of new.bits.items ((x - old.first) / 8))
        ≡ (((b && false) && bit_of old.bits.items ((x - old.first) / 8)) || false)
    go true = refl
    go false = refl

-- a place that is none of a range's words
pub no_place : (r : Range) (x : ℕ) → (x < r.first) ⊎ ((x - r.first) % 8 ≡ 0 → ⊥) → has_place r x ≡ false
unfolding has_place
no_place r x (inl down) = let off : nat_le r.first x ≡ false = grind (arith, down) in rw off refl
no_place r x (inr odd) =
    let off : ((x - r.first) % 8 == 0) ≡ false = ne_eqb ((x - r.first) % 8) 0 odd in
    rw off (go (nat_le r.first x))
  where
    go : (b : Bool) → ((b && false) && bit_of r.bits.items ((x - r.first) / 8)) ≡ false
    go true = refl
    go false = refl

pub a_place : (r : Range) (x : ℕ) → r.first ≤ x → (x - r.first) % 8 ≡ 0
    → has_place r x ≡ bit_of r.bits.items ((x - r.first) / 8)
unfolding has_place
a_place r x low z =
    let on : nat_le r.first x ≡ true = le-leb r.first x low in
    let even : ((x - r.first) % 8 == 0) ≡ true = eq-eqb ((x - r.first) % 8) 0 z in
    rw (on, even) refl

-- where no bit is set there is no place
pub no_bits : (r : Range) (n x : ℕ) → ◌≡◌ {A = List ℕ} r.bits.items (replicate n 0) → has_place r x ≡ false
unfolding has_place
no_bits r n x zeros =
    let none : bit_of r.bits.items ((x - r.first) / 8) ≡ false =
    bit_clear r.bits.items ((x - r.first) / 8)
    (ap (λ (bits : List ℕ). get_or bits ((x - r.first) / 8 / 64) 0) zeros ∙ zero_at n ((x - r.first) / 8 / 64)) in
    rw none (go (nat_le r.first x && ((x - r.first) % 8 == 0)))
  where
    go : (b : Bool) → (b && false) ≡ false
    go true = refl
    go false = refl

    zero_at : (n i : ℕ) → ◌≡◌ {A = ℕ} (get_or (replicate n 0) i 0) 0
    zero_at n i = elim (cases_lt i n) [
      | inl l ↦ get_or-replicate n i 0 0 l
      | inr past ↦ let zero : ℕ = 0 in get_or_past (replicate n zero) i 0 (rw (length-replicate n zero) past)
    ]
