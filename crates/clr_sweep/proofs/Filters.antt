-- Lists that are filtered, and their sums.
use Rattle.std.proofs.Common.{◌≡◌, ℕ, ◌+◌, Bool, true, false, ◌&&◌, if◌then◌else◌, List, [], ◌∷◌, ◌++◌, filter, sum_by}
use Rattle.std.proofs.Common.{refl, ap, ap₂, sym, ◌∙◌}
use Rattle.std.proofs.lemmas.List.Elements.{filter-append}
use Rattle.std.proofs.lemmas.List.Sums.{sum_by-append, sum_by-cons}
use Rattle.clr_types.specs.Rising.{first, IsIn, later}

-- a test after another is one test
pub filter-filter : {X : Type 0} (s t : X → Bool) (xs : List X) → filter t (filter s xs) ≡ filter (λ x. s x && t x) xs
filter-filter s t [] = refl
filter-filter s t (x ∷ xs) = go (s x) (filter-filter s t xs)
  where
    go : (b : Bool) → filter t (filter s xs) ≡ filter (λ x. s x && t x) xs
        → filter t (if b then x ∷ filter s xs else filter s xs)
        ≡ (if b && t x then x ∷ filter (λ x. s x && t x) xs else filter (λ x. s x && t x) xs)
    go true e = ap (λ ys. if t x then x ∷ ys else ys) e
    go false e = e

-- where nothing passes, nothing is left
pub filter-none : {X : Type 0} (t : X → Bool) (xs : List X) → ((x : X) → IsIn x xs → t x ≡ false) → filter t xs ≡ []
filter-none t [] none = refl
filter-none t (x ∷ xs) none =
    ap (λ b. if b then x ∷ filter t xs else filter t xs) (none x first)
    ∙ filter-none t xs (λ y i. none y (later i))

-- and where all does, all is
pub filter-all : {X : Type 0} (t : X → Bool) (xs : List X) → ((x : X) → IsIn x xs → t x ≡ true) → filter t xs ≡ xs
filter-all t [] all = refl
filter-all t (x ∷ xs) all =
    ap (λ b. if b then x ∷ filter t xs else filter t xs) (all x first)
    ∙ ap (λ ys. x ∷ ys) (filter-all t xs (λ y i. all y (later i)))

-- sums of what is alike are one
pub sum-on : {X : Type 0} (f g : X → ℕ) (xs : List X) → ((x : X) → IsIn x xs → f x ≡ g x)
    → sum_by f xs ≡ sum_by g xs
sum-on f g [] same = refl
sum-on f g (x ∷ xs) same =
    sum_by-cons f x xs ∙ ap₂ (λ (m n : ℕ). m + n) (same x first) (sum-on f g xs (λ y i. same y (later i)))
    ∙ sym (sum_by-cons g x xs)

-- the sum of what passes in two lists
pub sum-passing : {X : Type 0} (f : X → ℕ) (t : X → Bool) (xs ys : List X)
    → sum_by f (filter t (xs ++ ys)) ≡ sum_by f (filter t xs) + sum_by f (filter t ys)
sum-passing f t xs ys = ap (sum_by f) (filter-append t xs ys) ∙ sum_by-append f (filter t xs) (filter t ys)
