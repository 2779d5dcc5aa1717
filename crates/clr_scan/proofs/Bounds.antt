-- Where the places of lower generations begin.
use Rattle.std.proofs.Common.{◌≡◌, ◌≤◌, ◌&&◌, inl, inr, ℕ, Bool, true, false, nat_lt, nat_le, max}
use Rattle.std.proofs.Common.{if◌then◌else◌, refl, sym, ◌∙◌, arith}
use Rattle.std.proofs.lemmas.Bool.{cases_lt, le-leb, le-ltb, lt-leb, lt-ltb, ltb-false}

-- the generation of a place, by whether it stands in the ephemeral segment
abbrev place_age : Bool → ℕ → ℕ → ℕ → ℕ
place_age s x a b = if s then (if nat_lt x a then 2 else (if nat_lt x b then 1 else 0)) else 2

two_ages : (t : Bool) → nat_lt (if t then 1 else 0) 2 ≡ true
two_ages true = refl
two_ages false = refl

-- generations 0 and 1 begin at the first boundary
pub below_two : (s : Bool) (x start1 start0 : ℕ) → nat_lt (place_age s x start1 start0) 2 ≡ (s && nat_le start1 x)
below_two false x a b = refl
below_two true x a b = elim (cases_lt x a) [
  | inl l ↦ (let on = lt-ltb x a l in λ k. nat_lt (if on k then 2 else (if nat_lt x b then 1 else 0)) 2)
      ∙ sym (lt-leb a x l)
  | inr m ↦ (let off = le-ltb x a m in λ k. nat_lt (if off k then 2 else (if nat_lt x b then 1 else 0)) 2)
      ∙ two_ages (nat_lt x b) ∙ sym (le-leb a x m)
]

-- generation 0 begins where both boundaries lie below
pub below_one : (s : Bool) (x start1 start0 : ℕ)
    → nat_lt (place_age s x start1 start0) 1 ≡ (s && nat_le (max start1 start0) x)
below_one false x a b = refl
below_one true x a b = elim (cases_lt x a) [
  | inl l ↦ (let on = lt-ltb x a l in λ k. nat_lt (if on k then 2 else (if nat_lt x b then 1 else 0)) 1)
      ∙ sym (lt-leb (max a b) x (omega arith))
  | inr m ↦ (let off = le-ltb x a m in λ k. nat_lt (if off k then 2 else (if nat_lt x b then 1 else 0)) 1)
      ∙ elim (cases_lt x b) [
        | inl l ↦ (let on = lt-ltb x b l in λ k. nat_lt (if on k then 1 else 0) 1)
            ∙ sym (lt-leb (max a b) x (omega arith))
        | inr n ↦ (let off = le-ltb x b n in λ k. nat_lt (if off k then 1 else 0) 1)
            ∙ sym (le-leb (max a b) x (omega arith))
      ]
]

-- so a test by the place is one by the generation
pub place_old : (near : Bool) (word low age of : ℕ) → nat_lt of age ≡ (near && nat_le low word)
    → (near && nat_le low word) ≡ false → age ≤ of
place_old near word low age of same off = ltb-false of age (same ∙ off)
