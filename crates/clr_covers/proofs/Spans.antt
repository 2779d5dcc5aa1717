-- What is covered, from where covers begin and how many units they have.
use Rattle.std.proofs.Common.{◌≡◌, ◌≢◌, ℕ, zero, suc, ◌+◌, ◌<◌, ◌≤◌, length, get_or, Bool, true, false, ◌&&◌, ◌||◌}
use Rattle.std.proofs.Common.{List, [], ◌∷◌, ◌++◌, ltb, leb, eqb, refl, ap, sym, ◌∙◌, subst, arith, inl, inr}
use Rattle.std.specs.List.{AllByRecursion, list_any, remove}
use Rattle.std.proofs.lemmas.Bool.{and_right, cases_lt, eq-eqb, le-ltb, lt-ltb, ne_eqb}
use Rattle.std.proofs.lemmas.List.{map-append}
use Rattle.std.proofs.Math.Bool.{or-true}
use Rattle.clr_covers.specs.Covers.{AreApart, begins, cover_of, CoverView, has_unit, HasAll, is_covered, IsAbove}
use Rattle.clr_covers.specs.Covers.{IsFree, past_last, same_values, share_cover, span_of, spans, with_cover}
use Rattle.clr_covers.specs.Covers.{without_cover}
use Rattle.clr_covers.proofs.Changing.{length-same_values, or_swap}
use Rattle.clr_covers.proofs.Finding.{share_covered, unit_from}

-- whether a span has the unit
abbrev span_has : ℕ × ℕ → ℕ → Bool
span_has s i = leb s.0 i && ltb i (s.0 + s.1)

-- every span ends at b or below
abbrev pub EndBelow : ℕ → List (ℕ × ℕ) → Type 0
EndBelow b ss = AllByRecursion (λ (s : ℕ × ℕ). s.0 + s.1 ≤ b) ss

module _ {X : Type 0} where
  any_span : (test : ℕ × ℕ → Bool) (cs : List (CoverView X))
      → list_any (λ c. test (span_of c)) cs ≡ list_any test (spans cs)
  any_span test [] = refl
  any_span test (c ∷ cs) = ap (λ (b : Bool). test (span_of c) || b) (any_span test cs)

  -- covers of the same spans pass each test on spans alike
  any_alike : (test : ℕ × ℕ → Bool) (cs ds : List (CoverView X)) → spans cs ≡ spans ds
      → list_any (λ c. test (span_of c)) cs ≡ list_any (λ c. test (span_of c)) ds
  any_alike test cs ds e = any_span test cs ∙ ap (λ (ss : List (ℕ × ℕ)). list_any test ss) e ∙ sym (any_span test ds)

  pub is_covered-spans : (cs ds : List (CoverView X)) (i : ℕ) → spans cs ≡ spans ds → is_covered cs i ≡ is_covered ds i
  is_covered-spans cs ds i e = any_alike (λ s. span_has s i) cs ds e

  pub share_cover-spans : (cs ds : List (CoverView X)) (i j : ℕ) → spans cs ≡ spans ds
      → share_cover cs i j ≡ share_cover ds i j
  share_cover-spans cs ds i j e = any_alike (λ s. span_has s i && span_has s j) cs ds e

  pub begins-spans : (cs ds : List (CoverView X)) (i : ℕ) → spans cs ≡ spans ds → begins cs i ≡ begins ds i
  begins-spans cs ds i e = any_alike (λ s. eqb s.0 i) cs ds e

  pub IsFree-spans : (cs ds : List (CoverView X)) (low past : ℕ) → spans cs ≡ spans ds → IsFree cs low past
      → IsFree ds low past
  IsFree-spans cs ds low past e free i l h = is_covered-spans ds cs i (sym e) ∙ free i l h

  -- a cover has no unit above its last
  pub has_unit_above : (c : CoverView X) (i : ℕ) → past_last c ≤ i → has_unit c i ≡ false
  has_unit_above c i h = and_right (leb c.first i) (ltb i (past_last c)) (le-ltb i (past_last c) h)

  -- no cover that ends at b or below has a unit from there on
  pub free_above : (cs : List (CoverView X)) (b past : ℕ) → EndBelow b (spans cs) → IsFree cs b past
  free_above [] b past e i l h = refl
  free_above (c ∷ cs) b past e i l h =
      let end = e.0 in
      rw (has_unit_above c i (omega arith)) (free_above cs b past e.1 i l h)

  -- a cover above all others goes to the end
  pub with_cover_last : (c : CoverView X) (cs : List (CoverView X)) → EndBelow c.first (spans cs)
      → with_cover c cs ≡ (cs ++ c ∷ [])
  with_cover_last c [] e = refl
  with_cover_last c (d ∷ ds) e =
      let end = e.0 in
      rw (le-ltb c.first d.first (omega arith)) (ap (λ (es : List (CoverView X)). d ∷ es) (with_cover_last c ds e.1))

  pub spans-with_cover_last : (c : CoverView X) (cs : List (CoverView X)) → EndBelow c.first (spans cs)
      → spans (with_cover c cs) ≡ (spans cs ++ span_of c ∷ [])
  spans-with_cover_last c cs e = ap spans (with_cover_last c cs e) ∙ map-append span_of cs (c ∷ [])

  -- the span at place k goes with the cover that begins where it does
  pub spans-without_cover : (cs : List (CoverView X)) (k i : ℕ) → AreApart cs → k < length cs
      → (get_or (spans cs) k (0, 0)).0 ≡ i → spans (without_cover i cs) ≡ remove (spans cs) k
  spans-without_cover [] k i a l e = absurd (omega arith)
  spans-without_cover (c ∷ cs) zero i a l e = rw (eq-eqb c.first i e) refl
  spans-without_cover (c ∷ cs) (suc k) i a l e =
      let less : k < length cs = omega arith in
      let above = span_above cs (past_last c) k a.2 less in
      let some = a.0 in
      let other : c.first ≢ i = λ f. absurd (omega arith) in
      rw (ne_eqb c.first i other)
      (ap (λ (ss : List (ℕ × ℕ)). span_of c ∷ ss) (spans-without_cover cs k i a.3 less e))
    where
      span_above : (cs : List (CoverView X)) (b k : ℕ) → IsAbove b cs → k < length cs
          → b ≤ (get_or (spans cs) k (0, 0)).0
      span_above [] b k a h = absurd (omega arith)
      span_above (c ∷ cs) b zero a h = a.0
      span_above (c ∷ cs) b (suc k) a h = span_above cs b k a.1 (omega arith)

  -- the units of the new cover share it, and else the same ones as before share a cover
  pub share_cover-with_cover : (c : CoverView X) (cs : List (CoverView X)) (i j : ℕ)
      → share_cover (with_cover c cs) i j ≡ ((has_unit c i && has_unit c j) || share_cover cs i j)
  share_cover-with_cover c [] i j = refl
  share_cover-with_cover c (d ∷ ds) i j = elim (cases_lt c.first d.first) [
    | inl low ↦ rw (lt-ltb c.first d.first low) refl
    | inr high ↦ rw (le-ltb c.first d.first high)
        (ap (λ (b : Bool). (has_unit d i && has_unit d j) || b) (share_cover-with_cover c ds i j)
        ∙ or_swap (has_unit c i && has_unit c j) (has_unit d i && has_unit d j) (share_cover ds i j))
  ]

  -- a new cover has all its units
  pub HasAll-new_cover : (c : CoverView X) (cs : List (CoverView X)) → HasAll (with_cover c cs) c.first (past_last c)
  HasAll-new_cover c cs i j il ih jl jh =
      rw (share_cover-with_cover c cs i j) (rw (unit_from c i il ih, unit_from c j jl jh) refl)

  -- so has one of n units with the same value
  pub HasAll-new_values : (v : X) (cs : List (CoverView X)) (first n : ℕ)
      → HasAll (with_cover (cover_of first (same_values v n)) cs) first (first + n)
  HasAll-new_values v cs first n =
      let new = cover_of first (same_values v n) in
      let P : ℕ → Type 0 = λ count. HasAll (with_cover new cs) first (first + count) in
      subst P (length-same_values v n) (HasAll-new_cover new cs)

  -- the others keep theirs
  pub HasAll-with_cover : (c : CoverView X) (cs : List (CoverView X)) (low past : ℕ) → HasAll cs low past
      → HasAll (with_cover c cs) low past
  HasAll-with_cover c cs low past all i j il ih jl jh =
      share_cover-with_cover c cs i j
      ∙ ap (λ (b : Bool). (has_unit c i && has_unit c j) || b) (all i j il ih jl jh)
      ∙ or-true (has_unit c i && has_unit c j)

  pub HasAll-spans : (cs ds : List (CoverView X)) (low past : ℕ) → spans cs ≡ spans ds → HasAll cs low past
      → HasAll ds low past
  HasAll-spans cs ds low past e all i j il ih jl jh =
      share_cover-spans ds cs i j (sym e) ∙ all i j il ih jl jh

  -- each of them is covered
  pub HasAll-covered : (cs : List (CoverView X)) (low past i : ℕ) → HasAll cs low past → low ≤ i → i < past
      → is_covered cs i ≡ true
  HasAll-covered cs low past i all l h = share_covered cs i i (all i i l h l h)

  -- the span at place k has all its units
  pub HasAll-span : (cs : List (CoverView X)) (k : ℕ) → k < length cs
      → HasAll cs (get_or (spans cs) k (0, 0)).0 ((get_or (spans cs) k (0, 0)).0 + (get_or (spans cs) k (0, 0)).1)
  HasAll-span [] k l i j il ih jl jh = absurd (omega arith)
  HasAll-span (c ∷ cs) zero l i j il ih jl jh = rw (unit_from c i il ih, unit_from c j jl jh) refl
  HasAll-span (c ∷ cs) (suc k) l i j il ih jl jh =
      ap (λ (b : Bool). (has_unit c i && has_unit c j) || b) (HasAll-span cs k (omega arith) i j il ih jl jh)
      ∙ or-true (has_unit c i && has_unit c j)
