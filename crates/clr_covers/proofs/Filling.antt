-- Units of one cover that get one value.
use Rattle.std.proofs.Common.{◌≡◌, ℕ, zero, suc, ◌+◌, ◌-◌, ◌^◌, ◌<◌, ◌≤◌, inl, inr, true, ◌&&◌, cond}
use Rattle.std.proofs.Common.{List, [], ◌∷◌, length, get_or, set, refl, ap, sym, ◌∙◌, subst, arith}
use Rattle.std.proofs.Common.{ltb, leb, get_or-set_same, get_or-set_other}
use Rattle.std.proofs.lemmas.Bool.{cases_Bool, cases_eq, cases_lt, le-leb, le-ltb, lt-leb, lt-ltb}
use Rattle.clr_covers.specs.Covers.{AreApart, CoverView, has_unit, IsAbove, IsAt, past_last, share_cover, span_of}
use Rattle.clr_covers.specs.Covers.{spans, value_at}
use Rattle.clr_covers.proofs.Finding.{unit_bounds, unit_from}
use Rattle.clr_covers.proofs.Values.{head_misses, part_bounds, value_in}

module _ {X : Type 0} where
  -- what a unit between two bounds has, and what any other has
  pub between-inside : (v w : X) (from past i : ℕ) → from ≤ i → i < past → cond (leb from i && ltb i past) v w ≡ v
  between-inside v w from past i low high = rw (le-leb from i low, lt-ltb i past high) refl

  pub between-outside : (v w : X) (from past i : ℕ) → (from ≤ i → i < past → ⊥)
      → cond (leb from i && ltb i past) v w ≡ w
  between-outside v w from past i away = elim (cases_lt i from) [
    | inl below ↦ rw (lt-leb from i below) refl
    | inr low ↦ elim (cases_lt i past) [
      | inl high ↦ absurd (away low high)
      | inr above ↦ rw (le-leb from i low, le-ltb i past above) refl
    ]
  ]

  -- between bounds in the wrong order there is none
  pub filled_nowhere : (v w : X) (from past i : ℕ) → past ≤ from → w ≡ cond (leb from i && ltb i past) v w
  filled_nowhere v w from past i none = sym (between-outside v w from past i (λ l h. absurd (omega arith)))

  -- one value more is written
  pub filled_more : (xs old : List X) (v : X) (at i j : ℕ) (d : X) → at ≤ i → i < length xs
      → ((k : ℕ) → get_or xs k d ≡ cond (leb at k && ltb k i) v (get_or old k d))
      → get_or (set xs i v) j d ≡ cond (leb at j && ltb j (i + 1)) v (get_or old j d)
  filled_more xs old v at i j d low within before = elim (cases_eq j i) [
    | inl same ↦
        let P : ℕ → Type 0 = λ k. get_or (set xs i v) k d ≡ v in
        subst P (sym same) (get_or-set_same xs i v d within)
        ∙ sym (between-inside v (get_or old j d) at (i + 1) j (omega arith) (omega arith))
    | inr other ↦ get_or-set_other xs i j v d other ∙ before j ∙ elim (cases_lt j i) [
      | inl below ↦ elim (cases_lt j at) [
        | inl under ↦ between-outside v (get_or old j d) at i j (λ l h. absurd (omega arith))
            ∙ sym (between-outside v (get_or old j d) at (i + 1) j (λ l h. absurd (omega arith)))
        | inr up ↦ between-inside v (get_or old j d) at i j up below
            ∙ sym (between-inside v (get_or old j d) at (i + 1) j up (omega arith))
      ]
      | inr above ↦ between-outside v (get_or old j d) at i j (λ l h. absurd (omega arith))
          ∙ sym (between-outside v (get_or old j d) at (i + 1) j (λ l h. absurd (other (omega arith))))
    ]
  ]

  -- bounds on places in a list, as bounds on units of which the list has those from `first` on
  pub filled-units : (v w : X) (first from past i : ℕ) → first ≤ from → first ≤ past
      → cond (leb (from - first) i && ltb i (past - first)) v w
      ≡ cond (leb from (first + i) && ltb (first + i) past) v w
  filled-units v w first from past i low high = elim (cases_lt (first + i) from) [
    | inl below ↦ between-outside v w (from - first) (past - first) i (λ l h. absurd (omega arith))
        ∙ sym (between-outside v w from past (first + i) (λ l h. absurd (omega arith)))
    | inr up ↦ elim (cases_lt (first + i) past) [
      | inl under ↦ between-inside v w (from - first) (past - first) i (omega arith) (omega arith)
          ∙ sym (between-inside v w from past (first + i) up under)
      | inr over ↦ between-outside v w (from - first) (past - first) i (λ l h. absurd (omega arith))
          ∙ sym (between-outside v w from past (first + i) (λ l h. absurd (omega arith)))
    ]
  ]

  -- ---- a cover is put in the place of one with its span

  pub spans-set : (cs : List (CoverView X)) (k : ℕ) (n d : CoverView X) → span_of n ≡ span_of (get_or cs k d)
      → spans (set cs k n) ≡ spans cs
  spans-set [] k n d e = refl
  spans-set (c ∷ cs) zero n d e = ap (λ (s : ℕ × ℕ). s ∷ spans cs) e
  spans-set (c ∷ cs) (suc k) n d e = ap (λ (ss : List (ℕ × ℕ)). span_of c ∷ ss) (spans-set cs k n d e)

  -- the span of what was read from there, and changed in its values alone
  pub kept-span : (cs : List (CoverView X)) (k : ℕ) (c n : CoverView X) → c ≡ get_or cs k c → n.first ≡ c.first
      → length n.values ≡ length c.values → span_of n ≡ span_of (get_or cs k c)
  kept-span cs k c n is first count =
      let own : span_of n ≡ span_of c = (λ x. (first x, count x)) in
      own ∙ ap (λ (m : CoverView X). span_of m) is

  IsAbove-set : (cs : List (CoverView X)) (b k : ℕ) (n d : CoverView X) → span_of n ≡ span_of (get_or cs k d)
      → IsAbove b cs → IsAbove b (set cs k n)
  IsAbove-set [] b k n d e a = a
  IsAbove-set (c ∷ cs) b zero n d e a =
      let P : ℕ × ℕ → Type 0 = λ s. b ≤ s.0 in
      (subst P (sym e) a.0, a.1)
  IsAbove-set (c ∷ cs) b (suc k) n d e a = (a.0, IsAbove-set cs b k n d e a.1)

  pub AreApart-set : (cs : List (CoverView X)) (k : ℕ) (n d : CoverView X) → span_of n ≡ span_of (get_or cs k d)
      → AreApart cs → AreApart (set cs k n)
  AreApart-set [] k n d e a = a
  AreApart-set (c ∷ cs) zero n d e a =
      let P : ℕ × ℕ → Type 0 = λ s. (0 < s.1) × (s.0 + s.1 < 2 ^ 53) × IsAbove (s.0 + s.1) cs × AreApart cs in
      subst P (sym e) a
  AreApart-set (c ∷ cs) (suc k) n d e a =
      (a.0, a.1, IsAbove-set cs (past_last c) k n d e a.2, AreApart-set cs k n d e a.3)

  -- its units have its values, and all others theirs
  value_at-set : (cs : List (CoverView X)) (k i : ℕ) (n d : CoverView X) (e : X) → AreApart cs → k < length cs
      → span_of n ≡ span_of (get_or cs k d)
      → value_at e (set cs k n) i
      ≡ cond (has_unit (get_or cs k d) i) (get_or n.values (i - n.first) e) (value_at e cs i)
  value_at-set [] k i n d e a l s = absurd (omega arith)
  value_at-set (c ∷ cs) zero i n d e a l s =
      let alike : has_unit n i ≡ has_unit c i = ap (λ (t : ℕ × ℕ). leb t.0 i && ltb i (t.0 + t.1)) s in
      elim (cases_Bool (has_unit c i)) [
        | inl here ↦ rw (alike ∙ here, here) refl
        | inr miss ↦ rw (alike ∙ miss, miss) refl
      ]
  value_at-set (c ∷ cs) (suc k) i n d e a l s =
      let less : k < length cs = omega arith in
      let ih = value_at-set cs k i n d e a.3 less s in
      elim (cases_Bool (has_unit (get_or cs k d) i)) [
        | inl here ↦ rw (head_misses c cs k i d a less here) ih
        | inr away ↦ elim (cases_Bool (has_unit c i)) [
          | inl hit ↦ rw (hit, away) refl
          | inr miss ↦ rw miss ih
        ]
      ]

  -- cover k, which was read as c, becomes n: the units from `from` up to `past` have the value v, and all others theirs
  pub value_at-filled : (cs : List (CoverView X)) (k from past : ℕ) (c n : CoverView X) (v : X) → c ≡ get_or cs k c
      → AreApart cs → IsAt cs k from → from < past → share_cover cs from (past - 1) ≡ true
      → n.first ≡ c.first → length n.values ≡ length c.values
      → ((d : X) (i : ℕ) → get_or n.values i d
      ≡ cond (leb from (c.first + i) && ltb (c.first + i) past) v (get_or c.values i d))
      → (d : X) (i : ℕ) → value_at d (set cs k n) i ≡ cond (leb from i && ltb i past) v (value_at d cs i)
  value_at-filled cs k from past c n v is apart at some shared first count values d i =
      let b = part_bounds cs k from past c is apart at some shared in
      let whole = value_at-set cs k i n c d apart at.in_range (kept-span cs k c n is first count) in
      let Q : CoverView X → Type 0 = λ m. value_at d (set cs k n) i
      ≡ cond (has_unit m i) (get_or n.values (i - n.first) d) (value_at d cs i)
      in
      let changed = subst Q (sym is) whole in
      elim (cases_Bool (has_unit c i)) [
        | inl here ↦
            let u = unit_bounds c i here in
            let H : CoverView X → Type 0 = λ m. has_unit m i ≡ true in
            let before = value_in cs k i c d apart at.in_range (subst H is here) in
            let R : CoverView X → Type 0 = λ m. value_at d cs i ≡ get_or m.values (i - m.first) d in
            let old = subst R (sym is) before in
            let back : c.first + (i - c.first) ≡ i = omega arith in
            changed ∙ rw here (ap (λ (j : ℕ). get_or n.values (i - j) d) first ∙ values d (i - c.first)
            ∙ ap (λ (j : ℕ). cond (leb from j && ltb j past) v (get_or c.values (i - c.first) d)) back
            ∙ ap (λ (x : X). cond (leb from i && ltb i past) v x) (sym old))
        | inr miss ↦
            changed ∙ rw miss (sym (between-outside v (value_at d cs i) from past i (λ l h. (
            let hit = unit_from c i (omega arith) (omega arith) in absurd (cc)))))
      ]
