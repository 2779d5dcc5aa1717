-- A loop that replaces each element of a list by what a function makes of it.
use Rattle.std.proofs.Common.{◌≡◌, ℕ, zero, suc, ◌+◌, ◌<◌, List, [], ◌∷◌, ◌++◌, length, get_or, map, take, drop, set}
use Rattle.std.proofs.Common.{refl, ap, ap₂, ◌∙◌, arith}

replaced : {X : Type 0} → (X → X) → List X → ℕ → List X
replaced f xs i = map f (take i xs) ++ drop i xs

step : {X : Type 0} (f : X → X) (xs : List X) (i : ℕ) (d : X) → i < length xs
    → set (replaced f xs i) i (f (get_or (replaced f xs i) i d)) ≡ replaced f xs (suc i)
unfolding replaced
step f [] i d l = absurd (omega arith)
step f (x ∷ xs) zero d l = refl
step f (x ∷ xs) (suc i) d l = ap (λ ys. f x ∷ ys) (step f xs i d (omega arith))

-- one more element is replaced
pub replaced_more : {X : Type 0} (f : X → X) (xs ys : List X) (i : ℕ) (x new : X) → i < length xs
    → ys ≡ map f (take i xs) ++ drop i xs → x ≡ get_or ys i x → new ≡ f x
    → set ys i new ≡ map f (take (i + 1) xs) ++ drop (i + 1) xs
unfolding replaced
replaced_more f xs ys i x new l e r is =
    let at : suc i ≡ i + 1 = omega arith in
    ap₂ (λ zs z. set zs i z) e (is ∙ ap f (r ∙ ap (λ zs. get_or zs i x) e)) ∙ step f xs i x l
    ∙ ap (λ (j : ℕ). map f (take j xs) ++ drop j xs) at
