-- The search for the cover of a unit, where covers stand apart.
use Rattle.std.proofs.Common.{◌≡◌, ℕ, zero, suc, ◌^◌, ◌<◌, ◌≤◌, inl, inr, true, false, cond, List, [], ◌∷◌, length}
use Rattle.std.proofs.Common.{get_or, refl, subst, arith, ltb, leb}
use Rattle.std.proofs.lemmas.Bool.{cases_lt, cases_Bool, leb-true, ltb-true, and_parts, and_from, le-leb, lt-ltb}
use Rattle.clr_covers.specs.Covers.{AreApart, CoverView, has_unit, is_covered, IsAbove, IsAt, past_last, share_cover}

module _ {X : Type 0} where
  pub unit_bounds : (c : CoverView X) (i : ℕ) → has_unit c i ≡ true → (c.first ≤ i) × (i < past_last c)
  unit_bounds c i h =
      let p = and_parts (leb c.first i) (ltb i (past_last c)) h in
      (leb-true c.first i p.0, ltb-true i (past_last c) p.1)

  pub unit_from : (c : CoverView X) (i : ℕ) → c.first ≤ i → i < past_last c → has_unit c i ≡ true
  unit_from c i low high =
      and_from (leb c.first i) (ltb i (past_last c)) (le-leb c.first i low) (lt-ltb i (past_last c) high)

  -- a cover behind others begins where they allow
  pub above_at : (cs : List (CoverView X)) (b k : ℕ) (d : CoverView X) → IsAbove b cs → k < length cs
      → b ≤ (get_or cs k d).first
  above_at [] b k d a h = absurd (omega arith)
  above_at (c ∷ cs) b zero d a h = a.0
  above_at (c ∷ cs) b (suc k) d a h = above_at cs b k d a.1 (omega arith)

  pub apart_order : (cs : List (CoverView X)) (i j : ℕ) (d : CoverView X) → AreApart cs → i < j → j < length cs
      → past_last (get_or cs i d) ≤ (get_or cs j d).first
  apart_order [] i j d a lt h = absurd (omega arith)
  apart_order (c ∷ cs) i zero d a lt h = absurd (omega arith)
  apart_order (c ∷ cs) zero (suc j) d a lt h = above_at cs (past_last c) j d a.2 (omega arith)
  apart_order (c ∷ cs) (suc i) (suc j) d a lt h = apart_order cs i j d a.3 (omega arith) (omega arith)

  -- what holds of each cover
  pub apart_at : (cs : List (CoverView X)) (k : ℕ) (d : CoverView X) → AreApart cs → k < length cs
      → (0 < length (get_or cs k d).values) × (past_last (get_or cs k d) < 2 ^ 53)
  apart_at [] k d a h = absurd (omega arith)
  apart_at (c ∷ cs) zero d a h = (a.0, a.1)
  apart_at (c ∷ cs) (suc k) d a h = apart_at cs k d a.3 (omega arith)

  -- no cover above has the unit
  pub above_misses : (cs : List (CoverView X)) (b i : ℕ) → IsAbove b cs → i < b → is_covered cs i ≡ false
  above_misses [] b i a h = refl
  above_misses (c ∷ cs) b i a h = elim (cases_Bool (has_unit c i)) [
    | inl here ↦ let p = unit_bounds c i here in let l = a.0 in absurd (omega arith)
    | inr miss ↦ rw miss (above_misses cs b i a.1 h)
  ]

  -- the number of the first cover that has the unit
  abbrev pub cover_index : List (CoverView X) → ℕ → ℕ
  cover_index [] i = 0
  cover_index (c ∷ cs) i = cond (has_unit c i) 0 (suc (cover_index cs i))

  pub covered_index : (cs : List (CoverView X)) (i : ℕ) → is_covered cs i ≡ true → cover_index cs i < length cs
  covered_index [] i h = cc
  covered_index (c ∷ cs) i h = elim (cases_Bool (has_unit c i)) [
    | inl here ↦ rw here (omega arith)
    | inr miss ↦
        let rest : is_covered cs i ≡ true = rw miss at h in
        let later = covered_index cs i rest in
        rw miss (omega arith)
  ]

  pub at_index : (cs : List (CoverView X)) (i : ℕ) (d : CoverView X) → cover_index cs i < length cs
      → has_unit (get_or cs (cover_index cs i) d) i ≡ true
  at_index [] i d h = absurd (omega arith)
  at_index (c ∷ cs) i d h = elim (cases_Bool (has_unit c i)) [
    | inl here ↦ rw here here
    | inr miss ↦
        let rest : cover_index cs i < length cs = let k = rw miss at h in omega (arith, k) in
        rw miss (at_index cs i d rest)
  ]

  pub IsAt-index : (cs : List (CoverView X)) (i : ℕ) → is_covered cs i ≡ true → IsAt cs (cover_index cs i) i
  IsAt-index cs i h = let l = covered_index cs i h in record { in_range = l; here = λ d. at_index cs i d l }

  module _ (cs : List (CoverView X)) (i : ℕ) (d : CoverView X) (apart : AreApart cs) (covered : is_covered cs i ≡ true)
    where
      inside : cover_index cs i < length cs
      inside = covered_index cs i covered

      bounds_at : ((get_or cs (cover_index cs i) d).first ≤ i) × (i < past_last (get_or cs (cover_index cs i) d))
      bounds_at = unit_bounds (get_or cs (cover_index cs i) d) i (at_index cs i d inside)

      -- a unit at the front of cover k or above lies in that or a later one
      pub index_at_least : (k : ℕ) → k < length cs → (get_or cs k d).first ≤ i → k ≤ cover_index cs i
      index_at_least k l low = elim (cases_lt (cover_index cs i) k) [
        | inl wrong ↦
            let o = apart_order cs (cover_index cs i) k d apart wrong l in
            let b = bounds_at in
            absurd (omega arith)
        | inr right ↦ right
      ]

      -- a unit below that lies in an earlier one
      pub index_lower : (k : ℕ) → k < length cs → i < (get_or cs k d).first → cover_index cs i < k
      index_lower k l high = elim (cases_lt k (cover_index cs i)) [
        | inl wrong ↦
            let o = apart_order cs k (cover_index cs i) d apart wrong inside in
            let b = bounds_at in
            absurd (omega arith)
        | inr right ↦
            let b = bounds_at in
            elim (cases_lt (cover_index cs i) k) [
              | inl below ↦ below
              | inr above ↦
                  let same : cover_index cs i ≡ k = omega arith in
                  let P : ℕ → Type 0 = λ j. (get_or cs j d).first ≤ i in
                  let low : (get_or cs k d).first ≤ i = subst P same b.0 in
                  absurd (omega arith)
            ]
      ]

  -- ---- two units of one cover

  pub share_covered : (cs : List (CoverView X)) (i j : ℕ) → share_cover cs i j ≡ true → is_covered cs i ≡ true
  share_covered [] i j h = h
  share_covered (c ∷ cs) i j h = elim (cases_Bool (has_unit c i)) [
    | inl here ↦ rw here refl
    | inr miss ↦ let rest : share_cover cs i j ≡ true = rw miss at h in rw miss (share_covered cs i j rest)
  ]

  pub share_at : (cs : List (CoverView X)) (k i j : ℕ) (d : CoverView X) → AreApart cs → share_cover cs i j ≡ true
      → k < length cs → has_unit (get_or cs k d) i ≡ true → has_unit (get_or cs k d) j ≡ true
  share_at [] k i j d a s l h = absurd (omega arith)
  share_at (c ∷ cs) zero i j d a s l h = elim (cases_Bool (has_unit c j)) [
    | inl hit ↦ hit
    | inr miss ↦
        let rest : share_cover cs i j ≡ true = rw (h, miss) at s in
        let covered = share_covered cs i j rest in
        let p = unit_bounds c i h in
        let none = above_misses cs (past_last c) i a.2 p.1 in
        absurd (cc)
  ]
  share_at (c ∷ cs) (suc k) i j d a s l h =
      let less : k < length cs = omega arith in
      elim (cases_Bool (has_unit c i)) [
        | inl wrong ↦
            let p = unit_bounds c i wrong in
            let q = unit_bounds (get_or cs k d) i h in
            let o = above_at cs (past_last c) k d a.2 less in
            absurd (omega arith)
        | inr miss ↦ let rest : share_cover cs i j ≡ true = rw miss at s in share_at cs k i j d a.3 rest less h
      ]
