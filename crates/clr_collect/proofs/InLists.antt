-- Members of lists.
use Rattle.std.proofs.Common.{◌≡◌, ℕ, zero, suc, List, [], ◌∷◌, Some, subst}
use Rattle.std.specs.Prelude.{slice_get}
use Rattle.clr_types.specs.Rising.{first, IsIn, later}

-- what is read in a list stands in it
pub in_got : {X : Type 0} (xs : List X) (j : ℕ) (x : X) → slice_get xs j ≡ Some x → IsIn x xs
in_got [] j x e = absurd cc
in_got (y ∷ xs) zero x e = let same : y ≡ x = cc in subst (λ z. IsIn z (y ∷ xs)) same first
in_got (y ∷ xs) (suc j) x e = later (in_got xs j x e)
