-- Values of units, read and replaced.
use Rattle.std.proofs.Common.{◌≡◌, ◌≢◌, ℕ, zero, suc, ◌+◌, ◌-◌, ◌^◌, ◌<◌, ◌≤◌, inl, inr, true, false, ◌&&◌, cond}
use Rattle.std.proofs.Common.{List, [], ◌∷◌, length, get_or, set, refl, ap, sym, ◌∙◌, subst, arith, ltb, leb, eqb}
use Rattle.std.proofs.Common.{length-set, get_or-set_same, get_or-set_other}
use Rattle.std.specs.List.{slice_range}
use Rattle.std.proofs.lemmas.List.Edits.{get_or-between, length-between}
use Rattle.std.proofs.lemmas.Bool.{cases_Bool, cases_eq, ne_eqb, eq-eqb}
use Rattle.clr_covers.specs.Covers.{AreApart, CoverView, cover_with, has_unit, is_covered, IsAbove, IsAt, past_last}
use Rattle.clr_covers.specs.Covers.{share_cover, span_of, spans, value_at, with_value}
use Rattle.clr_covers.proofs.Finding.{above_at, apart_at, share_at, unit_bounds, unit_from}
use Rattle.clr_covers.proofs.Spans.{is_covered-spans}

module _ {X : Type 0} where
  -- the head doesn't have a unit of a later cover
  pub head_misses : (c : CoverView X) (cs : List (CoverView X)) (k i : ℕ) (d : CoverView X) → AreApart (c ∷ cs)
      → k < length cs → has_unit (get_or cs k d) i ≡ true → has_unit c i ≡ false
  head_misses c cs k i d a l h = elim (cases_Bool (has_unit c i)) [
    | inl wrong ↦
        let p = unit_bounds c i wrong in
        let q = unit_bounds (get_or cs k d) i h in
        let o = above_at cs (past_last c) k d a.2 l in
        absurd (omega arith)
    | inr right ↦ right
  ]

  -- the value of a unit stands in the cover that has it
  pub value_in : (cs : List (CoverView X)) (k i : ℕ) (d : CoverView X) (e : X) → AreApart cs → k < length cs
      → has_unit (get_or cs k d) i ≡ true
      → value_at e cs i ≡ get_or (get_or cs k d).values (i - (get_or cs k d).first) e
  value_in [] k i d e a l h = absurd (omega arith)
  value_in (c ∷ cs) zero i d e a l h = rw h refl
  value_in (c ∷ cs) (suc k) i d e a l h =
      let less : k < length cs = omega arith in
      rw (head_misses c cs k i d a less h) (value_in cs k i d e a.3 less h)

  -- cover k, which was read as c, has the units from `from` up to `past`
  module _ (cs : List (CoverView X)) (k from past : ℕ) (c : CoverView X) (is : c ≡ get_or cs k c) (apart : AreApart cs)
      (at : IsAt cs k from) (some : from < past) (shared : share_cover cs from (past - 1) ≡ true) where
    has_both : (has_unit c from ≡ true) × (has_unit c (past - 1) ≡ true)
    has_both =
        let P : CoverView X → Type 0 = λ n. (has_unit n from ≡ true) × (has_unit n (past - 1) ≡ true) in
        let first = at.here c in
        subst P (sym is) (first, share_at cs k from (past - 1) c apart shared at.in_range first)

    pub part_bounds : (c.first ≤ from) × (past ≤ past_last c)
    part_bounds =
        let low = unit_bounds c from has_both.0 in
        let high = unit_bounds c (past - 1) has_both.1 in
        (low.0, omega arith)

    pub part_fits : past < 2 ^ 53
    part_fits =
        let P : CoverView X → Type 0 = λ n. past_last n < 2 ^ 53 in
        let b = part_bounds in
        let fits = subst P (sym is) (apart_at cs k c apart at.in_range).1 in
        omega arith

    module _ (xs : List X) (part : xs ≡ slice_range c.values (from - c.first) (past - c.first)) where
      pub part_count : length xs ≡ past - from
      part_count =
          let b = part_bounds in
          ap length part ∙ length-between c.values (from - c.first) (past - c.first) (omega arith) ∙ omega arith

      pub part_values : (e : X) (i : ℕ) → from ≤ i → i < past → get_or xs (i - from) e ≡ value_at e cs i
      part_values e i low high =
          let b = part_bounds in
          let within : (from - c.first) + (i - from) < past - c.first = omega arith in
          let same : (from - c.first) + (i - from) ≡ i - c.first = omega arith in
          let P : CoverView X → Type 0 = λ n. has_unit n i ≡ true in
          let there = subst P is (unit_from c i (omega arith) (omega arith)) in
          ap (λ (ys : List X). get_or ys (i - from) e) part
          ∙ get_or-between c.values (from - c.first) (past - c.first) (i - from) e within
          ∙ ap (λ (n : ℕ). get_or c.values n e) same
          ∙ ap (λ (n : CoverView X). get_or n.values (i - n.first) e) is
          ∙ sym (value_in cs k i c e apart at.in_range there)

  -- a value is replaced in the cover that has its unit
  pub with_value_in : (cs : List (CoverView X)) (k i : ℕ) (v : X) (d : CoverView X) → AreApart cs → k < length cs
      → has_unit (get_or cs k d) i ≡ true → set cs k (cover_with (get_or cs k d) i v) ≡ with_value cs i v
  with_value_in [] k i v d a l h = absurd (omega arith)
  with_value_in (c ∷ cs) zero i v d a l h = rw h refl
  with_value_in (c ∷ cs) (suc k) i v d a l h =
      let less : k < length cs = omega arith in
      rw (head_misses c cs k i d a less h)
      (ap (λ (ds : List (CoverView X)). c ∷ ds) (with_value_in cs k i v d a.3 less h))

  -- a new value moves no cover
  has_unit-cover_with : (c : CoverView X) (i j : ℕ) (v : X) → has_unit (cover_with c i v) j ≡ has_unit c j
  has_unit-cover_with c i j v =
      ap (λ (n : ℕ). leb c.first j && ltb j (c.first + n)) (length-set c.values (i - c.first) v)

  pub spans-with_value : (cs : List (CoverView X)) (i : ℕ) (v : X) → spans (with_value cs i v) ≡ spans cs
  spans-with_value [] i v = refl
  spans-with_value (c ∷ cs) i v = elim (cases_Bool (has_unit c i)) [
    | inl here ↦ rw here (ap (λ (n : ℕ). (c.first, n) ∷ spans cs) (length-set c.values (i - c.first) v))
    | inr miss ↦ rw miss (ap (λ (ss : List (ℕ × ℕ)). span_of c ∷ ss) (spans-with_value cs i v))
  ]

  pub is_covered-with_value : (cs : List (CoverView X)) (i : ℕ) (v : X) (j : ℕ)
      → is_covered (with_value cs i v) j ≡ is_covered cs j
  is_covered-with_value cs i v j = is_covered-spans (with_value cs i v) cs j (spans-with_value cs i v)

  IsAbove-with_value : (cs : List (CoverView X)) (b i : ℕ) (v : X) → IsAbove b cs → IsAbove b (with_value cs i v)
  IsAbove-with_value [] b i v a = a
  IsAbove-with_value (c ∷ cs) b i v a = elim (cases_Bool (has_unit c i)) [
    | inl here ↦ rw here (a.0, a.1)
    | inr miss ↦ rw miss (a.0, IsAbove-with_value cs b i v a.1)
  ]

  pub AreApart-with_value : (cs : List (CoverView X)) (i : ℕ) (v : X) → AreApart cs → AreApart (with_value cs i v)
  AreApart-with_value [] i v a = a
  AreApart-with_value (c ∷ cs) i v a = elim (cases_Bool (has_unit c i)) [
    | inl here ↦ rw here (rw (length-set c.values (i - c.first) v) (a.0, a.1, a.2, a.3))
    | inr miss ↦ rw miss (a.0, a.1, IsAbove-with_value cs (past_last c) i v a.2, AreApart-with_value cs i v a.3)
  ]

  -- the unit has the new value
  pub value_at-same : (cs : List (CoverView X)) (i : ℕ) (v d : X) → is_covered cs i ≡ true
      → value_at d (with_value cs i v) i ≡ v
  value_at-same [] i v d h = absurd (cc)
  value_at-same (c ∷ cs) i v d h = elim (cases_Bool (has_unit c i)) [
    | inl here ↦
        let b = unit_bounds c i here in
        let within : i - c.first < length c.values = omega arith in
        rw here (rw (has_unit-cover_with c i i v ∙ here) (get_or-set_same c.values (i - c.first) v d within))
    | inr miss ↦
        let rest : is_covered cs i ≡ true = rw miss at h in
        rw miss (rw miss (value_at-same cs i v d rest))
  ]

  -- every other unit keeps its value
  pub value_at-other : (cs : List (CoverView X)) (i : ℕ) (v d : X) (j : ℕ) → j ≢ i
      → value_at d (with_value cs i v) j ≡ value_at d cs j
  value_at-other [] i v d j ne = refl
  value_at-other (c ∷ cs) i v d j ne = elim (cases_Bool (has_unit c i)) [
    | inl here ↦
        let p = unit_bounds c i here in
        elim (cases_Bool (has_unit c j)) [
          | inl both ↦
              let q = unit_bounds c j both in
              let other : j - c.first ≢ i - c.first = λ e. ne (omega arith) in
              let kept = get_or-set_other c.values (i - c.first) (j - c.first) v d other in
              rw (here, both) (rw (has_unit-cover_with c i j v ∙ both) kept)
          | inr miss ↦ rw (here, miss) (rw (has_unit-cover_with c i j v ∙ miss) refl)
        ]
    | inr away ↦
        let ih = value_at-other cs i v d j ne in
        elim (cases_Bool (has_unit c j)) [
          | inl hit ↦ rw (away, hit) refl
          | inr miss ↦ rw (away, miss) ih
        ]
  ]

  -- both together
  pub value_at-with_value : (cs : List (CoverView X)) (i : ℕ) (v d : X) (j : ℕ) → is_covered cs i ≡ true
      → value_at d (with_value cs i v) j ≡ cond (eqb j i) v (value_at d cs j)
  value_at-with_value cs i v d j h = elim (cases_eq j i) [
    | inl same ↦
        let P : ℕ → Type 0 = λ k. value_at d (with_value cs i v) k ≡ v in
        rw (eq-eqb j i same) (subst P (sym same) (value_at-same cs i v d h))
    | inr other ↦ rw (ne_eqb j i other) (value_at-other cs i v d j other)
  ]
