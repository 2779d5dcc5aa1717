-- Sums over lists that are filtered, and sums that are compared element by element.
use Rattle.std.proofs.Common.{◌≡◌, ℕ, ◌+◌, ◌≤◌, List, [], ◌∷◌, refl, sym, ap, ap₂, ◌∙◌, arith, Bool, true, false}
use Rattle.std.proofs.Common.{if◌then◌else◌, filter, sum_by}
use Rattle.std.proofs.lemmas.List.Sums.{sum_by-cons}
use Rattle.clr_types.specs.Rising.{IsIn, first, later}

module _ {X : Type 0} where
  -- what an element counts where the test passes it, and 0 elsewhere
  abbrev pub counted : (X → Bool) → (X → ℕ) → X → ℕ
  counted test f x = if test x then f x else 0

  -- the sum of what a test passes, as a sum over all
  pub sum-filtered : (test : X → Bool) (f : X → ℕ) (xs : List X)
      → sum_by f (filter test xs) ≡ sum_by (counted test f) xs
  sum-filtered test f [] = refl
  sum-filtered test f (x ∷ xs) = go (test x) (sum-filtered test f xs) ∙ sym (sum_by-cons (counted test f) x xs)
    where
      go : (b : Bool) → sum_by f (filter test xs) ≡ sum_by (counted test f) xs
          → sum_by f (if b then x ∷ filter test xs else filter test xs)
          ≡ (if b then f x else 0) + sum_by (counted test f) xs
      go true rest = sum_by-cons f x (filter test xs) ∙ ap (λ n. f x + n) rest
      go false rest = rest ∙ omega arith

  -- functions that agree on the list have one sum
  pub sum-on : (f g : X → ℕ) (xs : List X) → ((x : X) → IsIn x xs → f x ≡ g x) → sum_by f xs ≡ sum_by g xs
  sum-on f g [] same = refl
  sum-on f g (x ∷ xs) same =
      sum_by-cons f x xs ∙ ap₂ (λ (m n : ℕ). m + n) (same x first) (sum-on f g xs (λ y i. same y (later i)))
      ∙ sym (sum_by-cons g x xs)

  -- where each element counts no more, the sum is no more
  pub sum-below : (f g : X → ℕ) (xs : List X) → ((x : X) → IsIn x xs → f x ≤ g x) → sum_by f xs ≤ sum_by g xs
  sum-below f g [] below = omega arith
  sum-below f g (x ∷ xs) below =
      let here = below x first in
      let rest = sum-below f g xs (λ y i. below y (later i)) in
      let one = sum_by-cons f x xs in let other = sum_by-cons g x xs in
      omega arith

  -- a sum of two counts
  pub sum-both : (f g : X → ℕ) (xs : List X) → sum_by (λ x. f x + g x) xs ≡ sum_by f xs + sum_by g xs
  sum-both f g [] = refl
  sum-both f g (x ∷ xs) =
      let rest = sum-both f g xs in
      let both = sum_by-cons (λ x. f x + g x) x xs in
      let one = sum_by-cons f x xs in let other = sum_by-cons g x xs in
      omega arith

  -- what a test passes counts no more than all
  pub sum-filter_below : (test : X → Bool) (f : X → ℕ) (xs : List X) → sum_by f (filter test xs) ≤ sum_by f xs
  sum-filter_below test f xs =
      let is = sum-filtered test f xs in
      let below = sum-below (counted test f) f xs (λ x i. go (test x) (f x)) in
      omega arith
    where
      go : (b : Bool) (n : ℕ) → (if b then n else 0) ≤ n
      go true n = omega arith
      go false n = omega arith
