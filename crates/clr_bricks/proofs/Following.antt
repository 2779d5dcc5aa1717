-- Following back entries: one way, and one end.
use Rattle.std.proofs.Common.{◌≡◌, ℕ, zero, suc, ◌+◌, ◌-◌, ◌<◌, ◌≤◌, ◌⊎◌, inl, inr, ℤ, pos, negsuc, Option, Some, None}
use Rattle.std.proofs.Common.{refl, ap, sym, ◌∙◌, subst, arith, List, [], ◌∷◌, length, get_or, true, false}
use Rattle.std.specs.Prelude.{◌↔◌, IsNone, int_lt, unsigned_abs}
use Rattle.std.proofs.lemmas.Bool.{lt-ltb}
use Rattle.clr_covers.specs.Covers.{AreApart, CoverView, has_unit, IsAt}
use Rattle.clr_covers.proofs.Finding.{unit_bounds, unit_from}
use Rattle.clr_covers.proofs.Values.{head_misses}
use Rattle.clr_bricks.specs.Bricks.{entry_at, first_brick, IsEnd, IsLast, IsRoot, IsSearched, LeadsBack, LeadsNowhere}
use Rattle.clr_bricks.specs.Bricks.{LeadsToRoot, StopsAt}

-- the first brick of the cover that has a brick
first_brick_in : (bs : List (CoverView ℤ)) (k i : ℕ) (d : CoverView ℤ) → AreApart bs → k < length bs
    → has_unit (get_or bs k d) i ≡ true → first_brick bs i ≡ (get_or bs k d).first
first_brick_in [] k i d a l h = absurd (omega arith)
first_brick_in (b ∷ bs) zero i d a l h = rw h refl
first_brick_in (b ∷ bs) (suc k) i d a l h =
    let less : k < length bs = omega arith in
    rw (head_misses b bs k i d a less h) (first_brick_in bs k i d a.3 less h)

-- nothing leads on from a root or an end
stops_here : {A : Type 0} (entry : ℕ → ℤ) (first at k : ℕ) → IsRoot (entry at) ⊎ IsEnd entry first at
    → entry at ≡ negsuc k → first + suc k ≤ at → A
stops_here entry first at k (inl r) e l = let is = r.1 in absurd (cc)
stops_here entry first at k (inr (inl z)) e l = absurd (cc)
stops_here entry first at k (inr (inr b)) e l =
    let other : negsuc b.0 ≡ negsuc k = sym b.1 ∙ e in
    let same : b.0 ≡ k = cc in
    let under = b.2 in
    absurd (omega arith)

module _ {entry : ℕ → ℤ} {first : ℕ} where
  -- one back entry more
  pub LeadsBack-further : {from at n : ℕ} (k to m : ℕ) → LeadsBack entry first from at n → entry at ≡ negsuc k
      → first ≤ to → to + suc k ≡ at → m ≡ suc n → LeadsBack entry first from to m
  LeadsBack-further {at = x} k to m LeadsBack.here e low same more =
      let stands : x - suc k ≡ to = omega (arith, same) in
      let P : ℕ → Type 0 = λ b. LeadsBack entry first x b m in
      let Q : ℕ → Type 0 = λ c. LeadsBack entry first x (x - suc k) c in
      subst P stands (subst Q (sym more) (LeadsBack.back k e (omega (arith, same)) LeadsBack.here))
  LeadsBack-further {from = x} {n = suc n} k to m (LeadsBack.back j p q rest) e low same more =
      let P : ℕ → Type 0 = λ c. LeadsBack entry first x to c in
      subst P (sym more) (LeadsBack.back j p q (LeadsBack-further k to (suc n) rest e low same refl))

  -- only one brick is the end of the way
  one_end : {from a b n m : ℕ} → LeadsBack entry first from a n → IsRoot (entry a) ⊎ IsEnd entry first a
      → LeadsBack entry first from b m → IsRoot (entry b) ⊎ IsEnd entry first b → (a ≡ b) × (n ≡ m)
  one_end LeadsBack.here s LeadsBack.here t = (refl, refl)
  one_end {from = x} LeadsBack.here s (LeadsBack.back k e l rest) t = stops_here entry first x k s e l
  one_end {from = x} (LeadsBack.back k e l rest) s LeadsBack.here t = stops_here entry first x k t e l
  one_end {from = x} {b = y} (LeadsBack.back {n = n} k e l p) s (LeadsBack.back {n = m} j f o q) t =
      let other : negsuc k ≡ negsuc j = sym e ∙ f in
      let same : j ≡ k = cc in
      let P : ℕ → Type 0 = λ i. LeadsBack entry first (x - suc i) y m in
      let ends = one_end p s (subst P same q) t in
      (ends.0, ap suc ends.1)

-- an entry above 0 names an offset
pub root_above : (z : ℤ) → int_lt (pos 0) z ≡ true → IsRoot z
root_above (pos zero) h = absurd (cc)
root_above (pos (suc n)) h = (n, ap pos (omega arith))
root_above (negsuc k) h = absurd (cc)

-- one that is neither above 0 nor 0 leads back
pub back_below : (z : ℤ) → int_lt (pos 0) z ≡ false → (z ≡ pos 0 → ⊥)
    → (k : ℕ) × (z ≡ negsuc k) × (unsigned_abs z ≡ suc k)
back_below (pos zero) h n = absurd (n refl)
back_below (pos (suc n)) h z = let t = lt-ltb 0 (suc n) (omega arith) in absurd (cc)
back_below (negsuc k) h n = (k, refl, refl)

-- a root is no end
root_no_end : {A : Type 0} (entry : ℕ → ℤ) (first at : ℕ) → IsRoot (entry at) → IsEnd entry first at → A
root_no_end entry first at r (inl z) =
    let both : pos (r.0 + 1) ≡ pos 0 = sym r.1 ∙ z in
    let same : r.0 + 1 ≡ 0 = cc in
    absurd (omega arith)
root_no_end entry first at r (inr b) = let is = r.1 in let other = b.1 in absurd (cc)

-- ---- the cover in which a search stays

-- the first brick of cover k, read as such
module _ (bs : List (CoverView ℤ)) (k i first : ℕ) (at : IsAt bs k i)
    (is : (d : CoverView ℤ) → first ≡ (get_or bs k d).first) where
  none : CoverView ℤ
  none = record { first = 0; values = [] }

  pub first_is : AreApart bs → first ≡ first_brick bs i
  first_is apart = is none ∙ sym (first_brick_in bs k i none apart at.in_range (at.here none))

  -- no brick of the cover stands below it
  pub first_below : first ≤ i
  first_below = let b = unit_bounds (get_or bs k none) i (at.here none) in let f = is none in omega arith

  -- a lower brick of the same cover
  pub IsAt-lower : (j : ℕ) → first ≤ j → j ≤ i → IsAt bs k j
  IsAt-lower j low high = record {
    in_range = at.in_range;
    here = λ d. (let b = unit_bounds (get_or bs k d) i (at.here d) in let f = is d in
        unit_from (get_or bs k d) j (omega arith) (omega arith));
  }

-- ---- what a search found

module _ (bs : List (CoverView ℤ)) (from reads : ℕ) where
  -- where it stopped
  stopped : (result : Option ℕ) (s : IsSearched bs from result reads) → StopsAt bs from s.last s.count
  stopped None s = (s.path, inr s.outcome)
  stopped (Some b) s = (s.path, inl s.outcome.1)

  -- the answer is the one brick to which the entries lead, where that names an offset
  pub found_exactly : (result : Option ℕ) → IsSearched bs from result reads → (b : ℕ)
      → (result ≡ Some b) ↔ LeadsToRoot bs from b
  found_exactly None s b = (
    λ e. absurd (cc),
    λ r. (let ends = one_end s.path (inr s.outcome) r.1 (inl r.2) in
        let P : ℕ → Type 0 = λ x. IsRoot (entry_at bs x) in
        root_no_end (entry_at bs) (first_brick bs from) s.last (subst P (sym ends.0) r.2) s.outcome),
  )
  found_exactly (Some x) s b = (
    λ e. (let same : s.last ≡ b = sym s.outcome.0 ∙ cc in
        let P : ℕ → Type 0 = λ y. LeadsToRoot bs from y in
        subst P same (s.count, s.path, s.outcome.1)),
    λ r. (let ends = one_end s.path (inl s.outcome.1) r.1 (inl r.2) in ap Some (s.outcome.0 ∙ ends.0)),
  )

  pub none_exactly : (result : Option ℕ) → IsSearched bs from result reads → IsNone result ↔ LeadsNowhere bs from
  none_exactly None s = (λ e. (s.last, s.count, s.path, s.outcome), λ r. refl)
  none_exactly (Some x) s = (
    λ e. absurd (cc),
    λ r. (let ends = one_end s.path (inl s.outcome.1) r.2 (inr r.3) in
        let P : ℕ → Type 0 = λ y. IsLast bs from y in
        root_no_end (entry_at bs) (first_brick bs from) s.last s.outcome.1 (subst P (sym ends.0) r.3)),
  )

  pub reads_exactly : (result : Option ℕ) → IsSearched bs from result reads → (b n : ℕ) → StopsAt bs from b n
      → reads ≡ n + 1
  reads_exactly result s b n stops =
      let there = stopped result s in
      let ends = one_end there.0 there.1 stops.0 stops.1 in
      let is = s.counted in
      omega arith
