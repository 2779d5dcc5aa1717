-- Covers that come and go.
use Rattle.std.proofs.Common.{◌≡◌, ◌≢◌, ℕ, zero, suc, ◌+◌, ◌-◌, ◌^◌, ◌<◌, ◌≤◌, inl, inr, true, false, Bool, ◌||◌, cond}
use Rattle.std.proofs.Common.{List, [], ◌∷◌, length, get_or, refl, ap, sym, ◌∙◌, subst, arith}
use Rattle.std.specs.Prelude.{insert, remove, Result, Ok, Err, OnOk, OnErr}
use Rattle.std.proofs.lemmas.List.{get_or_default, length-replicate}
use Rattle.std.proofs.lemmas.Bool.{cases_Bool, cases_eq, cases_lt, lt-ltb, le-ltb, eq-eqb, ne_eqb, or_parts}
use Rattle.clr_covers.specs.Covers.{AreApart, begins, cover_of, CoverView, has_unit, is_covered, IsAbove, IsFree}
use Rattle.clr_covers.specs.Covers.{past_last, same_values, value_at, with_cover, without_cover}
use Rattle.clr_covers.proofs.Finding.{above_at, above_misses, apart_order, unit_bounds, unit_from}

pub or_swap : (a b c : Bool) → (b || (a || c)) ≡ (a || (b || c))
or_swap true true c = refl
or_swap true false c = refl
or_swap false true c = refl
or_swap false false c = refl

-- what holds after a call that added a cover or left all as it was
pub added_or_not : {A E : Type 0} {P : Type 0} {Q R : Type 0} (r : Result A E) → OnOk r Q → OnErr r R → (Q → P)
    → (R → P) → P
added_or_not (Ok x) q s f g = f q
added_or_not (Err e) q s f g = g s

module _ {X : Type 0} where
  -- a cover goes behind all that begin no higher
  pub insert_is : (c : CoverView X) (cs : List (CoverView X)) (k : ℕ) (d : CoverView X) → k ≤ length cs
      → ((j : ℕ) → j < k → (get_or cs j d).first ≤ c.first) → (k < length cs → c.first < (get_or cs k d).first)
      → insert cs k c ≡ with_cover c cs
  insert_is c [] zero d l before behind = refl
  insert_is c [] (suc k) d l before behind = absurd (omega arith)
  insert_is c (e ∷ es) zero d l before behind = rw (lt-ltb c.first e.first (behind (omega arith))) refl
  insert_is c (e ∷ es) (suc k) d l before behind =
      let low : e.first ≤ c.first = before 0 (omega arith) in
      let rest =
      insert_is c es k d (omega arith) (λ j h. before (suc j) (omega arith)) (λ h. behind (omega arith))
      in
      rw (le-ltb c.first e.first low) (ap (λ (ds : List (CoverView X)). e ∷ ds) rest)

  -- where the last of k covers begins no higher than first, all of them do
  pub below_last : (cs : List (CoverView X)) (k first : ℕ) (d : CoverView X) → AreApart cs → k ≤ length cs
      → (get_or cs (k - 1) d).first ≤ first → (j : ℕ) (e : CoverView X) → j < k → (get_or cs j e).first ≤ first
  below_last cs k first d a l low j e h =
      let same = ap (λ (n : CoverView X). n.first) (get_or_default cs j d e (omega arith)) in
      elim (cases_lt j (k - 1)) [
        | inl before ↦ let o = apart_order cs j (k - 1) d a before (omega arith) in omega arith
        | inr last ↦
            let at : k - 1 ≡ j = omega arith in
            let P : ℕ → Type 0 = λ i. (get_or cs i d).first ≤ first in
            let there = subst P at low in
            omega arith
      ]

  -- a cover that shares no unit with c, and doesn't begin above it, ends before it
  ends_before : (c e : CoverView X) → 0 < length e.values → 0 < length c.values
      → ((i : ℕ) → c.first ≤ i → i < past_last c → has_unit e i ≡ false) → e.first ≤ c.first → past_last e ≤ c.first
  ends_before c e some full free low = elim (cases_lt c.first (past_last e)) [
    | inl wrong ↦
        let hit = unit_from e c.first low wrong in
        let miss = free c.first (omega arith) (omega arith) in
        absurd (cc)
    | inr right ↦ right
  ]

  begins_behind : (c e : CoverView X) → 0 < length e.values → 0 < length c.values
      → ((i : ℕ) → c.first ≤ i → i < past_last c → has_unit e i ≡ false) → c.first < e.first → past_last c ≤ e.first
  begins_behind c e some full free low = elim (cases_lt e.first (past_last c)) [
    | inl wrong ↦
        let hit = unit_from e e.first (omega arith) (omega arith) in
        let miss = free e.first (omega arith) wrong in
        absurd (cc)
    | inr right ↦ right
  ]

  IsAbove-lower : (cs : List (CoverView X)) (a b : ℕ) → a ≤ b → IsAbove b cs → IsAbove a cs
  IsAbove-lower [] a b le h = h
  IsAbove-lower (c ∷ cs) a b le h = let l = h.0 in (omega arith, IsAbove-lower cs a b le h.1)

  IsAbove-with_cover : (c : CoverView X) (cs : List (CoverView X)) (b : ℕ) → b ≤ c.first → IsAbove b cs
      → IsAbove b (with_cover c cs)
  IsAbove-with_cover c [] b le a = (le, a)
  IsAbove-with_cover c (e ∷ es) b le a = elim (cases_lt c.first e.first) [
    | inl low ↦ rw (lt-ltb c.first e.first low) (le, a)
    | inr high ↦ rw (le-ltb c.first e.first high) (a.0, IsAbove-with_cover c es b le a.1)
  ]

  pub AreApart-with_cover : (c : CoverView X) (cs : List (CoverView X)) → 0 < length c.values → past_last c < 2 ^ 53
      → IsFree cs c.first (past_last c) → AreApart cs → AreApart (with_cover c cs)
  AreApart-with_cover c [] full fits free a = (full, fits, a, a)
  AreApart-with_cover c (e ∷ es) full fits free a =
      let parts : (i : ℕ) → c.first ≤ i → i < past_last c → (has_unit e i ≡ false) × (is_covered es i ≡ false) =
      λ i l h. or_parts (has_unit e i) (is_covered es i) (free i l h)
      in
      elim (cases_lt c.first e.first) [
        | inl low ↦
            let behind = begins_behind c e a.0 full (λ i l h. (parts i l h).0) low in
            let above = IsAbove-lower es (past_last c) (past_last e) (omega arith) a.2 in
            rw (lt-ltb c.first e.first low) (full, fits, (behind, above), a)
        | inr high ↦
            let ends = ends_before c e a.0 full (λ i l h. (parts i l h).0) high in
            let above = IsAbove-with_cover c es (past_last e) ends a.2 in
            let rest = AreApart-with_cover c es full fits (λ i l h. (parts i l h).1) a.3 in
            rw (le-ltb c.first e.first high) (a.0, a.1, above, rest)
      ]

  -- the units of the new cover are covered, and else the same as before
  pub is_covered-with_cover : (c : CoverView X) (cs : List (CoverView X)) (i : ℕ)
      → is_covered (with_cover c cs) i ≡ (has_unit c i || is_covered cs i)
  is_covered-with_cover c [] i = refl
  is_covered-with_cover c (e ∷ es) i = elim (cases_lt c.first e.first) [
    | inl low ↦ rw (lt-ltb c.first e.first low) refl
    | inr high ↦ rw (le-ltb c.first e.first high)
        (ap (λ (b : Bool). has_unit e i || b) (is_covered-with_cover c es i)
        ∙ or_swap (has_unit c i) (has_unit e i) (is_covered es i))
  ]

  -- every unit outside the new cover keeps its value
  pub value_at-with_cover : (c : CoverView X) (cs : List (CoverView X)) (d : X) (i : ℕ) → has_unit c i ≡ false
      → value_at d (with_cover c cs) i ≡ value_at d cs i
  value_at-with_cover c [] d i h = rw h refl
  value_at-with_cover c (e ∷ es) d i h = elim (cases_lt c.first e.first) [
    | inl low ↦ rw (lt-ltb c.first e.first low) (rw h refl)
    | inr high ↦ rw (le-ltb c.first e.first high)
        (ap (λ (x : X). cond (has_unit e i) (get_or e.values (i - e.first) d) x) (value_at-with_cover c es d i h))
  ]

  -- the units of the new cover have its values
  pub value_at-new_cover : (c : CoverView X) (cs : List (CoverView X)) (d : X) (i : ℕ) → is_covered cs i ≡ false
      → has_unit c i ≡ true → value_at d (with_cover c cs) i ≡ get_or c.values (i - c.first) d
  value_at-new_cover c [] d i free h = rw h refl
  value_at-new_cover c (e ∷ es) d i free h =
      let parts = or_parts (has_unit e i) (is_covered es i) free in
      elim (cases_lt c.first e.first) [
        | inl low ↦ rw (lt-ltb c.first e.first low) (rw h refl)
        | inr high ↦ rw (le-ltb c.first e.first high, parts.0) (value_at-new_cover c es d i parts.1 h)
      ]

  -- where no cover has a unit its value is the given one
  pub value_at-uncovered : (cs : List (CoverView X)) (d : X) (i : ℕ) → is_covered cs i ≡ false → value_at d cs i ≡ d
  value_at-uncovered [] d i h = refl
  value_at-uncovered (c ∷ cs) d i h =
      let parts = or_parts (has_unit c i) (is_covered cs i) h in
      rw parts.0 (value_at-uncovered cs d i parts.1)

  pub length-same_values : (v : X) (n : ℕ) → length (same_values v n) ≡ n
  unfolding same_values
  length-same_values v n = length-replicate n v

  same_value : (v : X) (n j : ℕ) → get_or (same_values v n) j v ≡ v
  unfolding same_values
  same_value v zero j = refl
  same_value v (suc n) zero = refl
  same_value v (suc n) (suc j) = same_value v n j

  -- a new cover whose units all have the value of units without a cover leaves each unit's value as it was
  pub value_at-same_values : (cs : List (CoverView X)) (first n i : ℕ) (v : X) → IsFree cs first (first + n)
      → value_at v (with_cover (cover_of first (same_values v n)) cs) i ≡ value_at v cs i
  value_at-same_values cs first n i v free =
      let new = cover_of first (same_values v n) in
      elim (cases_Bool (has_unit new i)) [
        | inl here ↦
            let b = unit_bounds new i here in
            let count = length-same_values v n in
            let away = free i b.0 (omega arith) in
            value_at-new_cover new cs v i away here ∙ same_value v n (i - first) ∙ sym (value_at-uncovered cs v i away)
        | inr miss ↦ value_at-with_cover new cs v i miss
      ]

  -- ---- a cover goes

  pub begins_covered : (cs : List (CoverView X)) (i : ℕ) → AreApart cs → begins cs i ≡ true → is_covered cs i ≡ true
  begins_covered [] i a h = absurd (cc)
  begins_covered (c ∷ cs) i a h = elim (cases_eq c.first i) [
    | inl same ↦ let some = a.0 in rw (unit_from c i (omega arith) (omega arith)) refl
    | inr other ↦
        let rest : begins cs i ≡ true = rw (ne_eqb c.first i other) at h in
        elim (cases_Bool (has_unit c i)) [
          | inl here ↦ rw here refl
          | inr miss ↦ rw miss (begins_covered cs i a.3 rest)
        ]
  ]

  -- the cover that has the unit with which one begins is that one
  pub remove_is : (cs : List (CoverView X)) (k i : ℕ) (d : CoverView X) → AreApart cs → begins cs i ≡ true
      → k < length cs → has_unit (get_or cs k d) i ≡ true → remove cs k ≡ without_cover i cs
  remove_is [] k i d a b l h = absurd (omega arith)
  remove_is (c ∷ cs) zero i d a b l h = elim (cases_eq c.first i) [
    | inl same ↦ rw (eq-eqb c.first i same) refl
    | inr other ↦
        let rest : begins cs i ≡ true = rw (ne_eqb c.first i other) at b in
        let hit = begins_covered cs i a.3 rest in
        let p = unit_bounds c i h in
        let miss = above_misses cs (past_last c) i a.2 p.1 in
        absurd (cc)
  ]
  remove_is (c ∷ cs) (suc k) i d a b l h =
      let less : k < length cs = omega arith in
      let q = unit_bounds (get_or cs k d) i h in
      let o = above_at cs (past_last c) k d a.2 less in
      let some = a.0 in
      let other : c.first ≢ i = λ e. absurd (omega arith) in
      let rest : begins cs i ≡ true = rw (ne_eqb c.first i other) at b in
      rw (ne_eqb c.first i other)
      (ap (λ (ds : List (CoverView X)). c ∷ ds) (remove_is cs k i d a.3 rest less h))

  IsAbove-without_cover : (cs : List (CoverView X)) (b i : ℕ) → IsAbove b cs → IsAbove b (without_cover i cs)
  IsAbove-without_cover [] b i a = a
  IsAbove-without_cover (c ∷ cs) b i a = elim (cases_eq c.first i) [
    | inl same ↦ rw (eq-eqb c.first i same) a.1
    | inr other ↦ rw (ne_eqb c.first i other) (a.0, IsAbove-without_cover cs b i a.1)
  ]

  pub AreApart-without_cover : (cs : List (CoverView X)) (i : ℕ) → AreApart cs → AreApart (without_cover i cs)
  AreApart-without_cover [] i a = a
  AreApart-without_cover (c ∷ cs) i a = elim (cases_eq c.first i) [
    | inl same ↦ rw (eq-eqb c.first i same) a.3
    | inr other ↦
        rw (ne_eqb c.first i other)
        (a.0, a.1, IsAbove-without_cover cs (past_last c) i a.2, AreApart-without_cover cs i a.3)
  ]

  -- a unit that is still covered keeps its value
  pub value_at-without_cover : (cs : List (CoverView X)) (first i : ℕ) (d : X) → AreApart cs
      → is_covered (without_cover first cs) i ≡ true → value_at d (without_cover first cs) i ≡ value_at d cs i
  value_at-without_cover [] first i d a h = refl
  value_at-without_cover (c ∷ cs) first i d a h = elim (cases_eq c.first first) [
    | inl same ↦
        let rest : is_covered cs i ≡ true = rw (eq-eqb c.first first same) at h in
        rw (eq-eqb c.first first same) (elim (cases_Bool (has_unit c i)) [
          | inl wrong ↦
              let b = unit_bounds c i wrong in
              let none = above_misses cs (past_last c) i a.2 b.1 in
              absurd (cc)
          | inr miss ↦ rw miss refl
        ])
    | inr other ↦
        elim (cases_Bool (has_unit c i)) [
          | inl here ↦ rw (ne_eqb c.first first other) (rw here refl)
          | inr miss ↦
              let rest : is_covered (without_cover first cs) i ≡ true = rw (ne_eqb c.first first other, miss) at h in
              rw (ne_eqb c.first first other) (rw miss (value_at-without_cover cs first i d a.3 rest))
        ]
  ]
