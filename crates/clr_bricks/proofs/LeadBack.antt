-- Bricks that are led back one after the other.
use Rattle.std.proofs.Common.{◌≡◌, ℕ, zero, suc, ◌+◌, ◌-◌, ◌<◌, ◌≤◌, inl, inr, ℤ, pos, negsuc, ◌-ℤ◌, true, List}
use Rattle.std.proofs.Common.{[], ◌∷◌, refl, ap, sym, ◌∙◌, arith, eqb, w16, FitsSigned, to_z, of_z}
use Rattle.std.proofs.lemmas.Bool.{cases_Bool, cases_lt, eqb-true, le-leb, le-ltb, lt-leb, lt-ltb}
use Rattle.std.proofs.lemmas.Int.{ints, to_z_pos, to_z-of_z}
use Rattle.clr_covers.specs.Covers.{CoverView, has_unit, is_covered, share_cover}
use Rattle.clr_covers.proofs.Finding.{unit_bounds, unit_from}
use Rattle.clr_bricks.specs.Bricks.{back_entry, hop, led_back}

-- units between two of one cover are covered
pub share_between : (cs : List (CoverView ℤ)) (low high i : ℕ) → share_cover cs low high ≡ true → low ≤ i → i ≤ high
    → is_covered cs i ≡ true
share_between [] low high i h up down = h
share_between (c ∷ cs) low high i h up down = elim (cases_Bool (has_unit c low)) [
  | inl first ↦ elim (cases_Bool (has_unit c high)) [
    | inl last ↦
        let a = unit_bounds c low first in
        let b = unit_bounds c high last in
        rw (unit_from c i (omega arith) (omega arith)) refl
    | inr miss ↦
        let rest : share_cover cs low high ≡ true = rw (first, miss) at h in
        later (share_between cs low high i rest up down)
  ]
  | inr miss ↦
      let rest : share_cover cs low high ≡ true = rw miss at h in
      later (share_between cs low high i rest up down)
]
  where
    later : is_covered cs i ≡ true → is_covered (c ∷ cs) i ≡ true
    later covered = elim (cases_Bool (has_unit c i)) [
      | inl here ↦ rw here refl
      | inr away ↦ rw away covered
    ]

-- bricks that lead back already are led back
pub led-already : (entry : ℕ → ℤ) (from to i : ℕ)
    → ((j : ℕ) → from ≤ j → j < to → entry j ≡ back_entry (hop (j + 1 - from))) → entry i ≡ led_back entry from to i
led-already entry from to i led = elim (cases_lt i from) [
  | inl low ↦ rw (lt-leb from i low) refl
  | inr up ↦ elim (cases_lt i to) [
    | inl under ↦ led i up under ∙ sym (rw (le-leb from i up, lt-ltb i to under) refl)
    | inr over ↦ rw (le-leb from i up, le-ltb i to over) refl
  ]
]

-- one step back goes over some bricks, and fits an entry
pub hop-within : (far : ℕ) → 1 ≤ far → (1 ≤ hop far) × (hop far ≤ 32767)
hop-within far some = elim (cases_lt far 32767) [
  | inl near ↦ rw (lt-ltb far 32767 near) (some, omega arith)
  | inr more ↦ rw (le-ltb far 32767 more) (omega arith, omega arith)
]

-- and it goes all the way, if that isn't further
pub hop-near : (far : ℕ) → far ≤ 32767 → hop far ≡ far
hop-near far near = elim (cases_lt far 32767) [
  | inl below ↦ rw (lt-ltb far 32767 below) refl
  | inr more ↦ rw (le-ltb far 32767 more) (omega arith)
]

-- an entry that has the bits of a number below 0 leads back so far
pub back-by-bits : (z : ℤ) (back : ℕ) → FitsSigned w16 z → 1 ≤ back → back ≤ 32767
    → eqb (of_z w16 z) (of_z w16 (pos 0 -ℤ to_z w16 back)) ≡ true → z ≡ back_entry back
back-by-bits z zero fits some most same = absurd (omega arith)
back-by-bits z (suc n) fits some most same =
    let below : pos 0 -ℤ to_z w16 (suc n) ≡ negsuc n =
    ap (λ (y : ℤ). pos 0 -ℤ y) (to_z_pos w16 (suc n) (omega arith)) ∙ omega (arith, ints) in
    let bits = eqb-true (of_z w16 z) (of_z w16 (pos 0 -ℤ to_z w16 (suc n))) same in
    let back : FitsSigned w16 (negsuc n) = record { sfits = omega arith } in
    let at : n ≡ suc n - 1 = omega arith in
    sym (to_z-of_z w16 z fits) ∙ ap (λ (b : ℕ). to_z w16 b) (bits ∙ ap (λ (y : ℤ). of_z w16 y) below)
    ∙ to_z-of_z w16 (negsuc n) back ∙ ap negsuc at
