-- What is reached over all edges, and what of it is reached over condemned nodes alone.
use Rattle.std.proofs.Common.{◌≡◌, inl, inr, ℕ, Bool, true, false}
use Rattle.std.proofs.lemmas.Bool.{cases_Bool}
use Rattle.clr_model.specs.Reach.{follows, Reach, starts}

-- The narrow start has what is condemned of the wide one, and each condemned node to which an edge leads from one that
-- is reached and isn't condemned. A narrow edge is any one to a condemned node.
module _ (edge near : ℕ → ℕ → Type 0) (start begin : ℕ → Type 0) (condemned : ℕ → Bool)
    (narrow : (x y : ℕ) → edge x y → condemned y ≡ true → near x y)
    (young : (x : ℕ) → start x → condemned x ≡ true → begin x)
    (crossing : (x y : ℕ) → Reach edge start x → condemned x ≡ false → edge x y → condemned y ≡ true → begin y) where
  -- WHAT IS REACHED AND CONDEMNED is reached over condemned nodes
  pub near_reached : (x : ℕ) → Reach edge start x → condemned x ≡ true → Reach near begin x
  near_reached x (starts s) on = starts (young x s on)
  near_reached x (follows {x = y} r e) on = elim (cases_Bool (condemned y)) [
    | inl here ↦ follows (near_reached y r here) (narrow y x e on)
    | inr off ↦ starts (crossing y x r off e on)
  ]

-- what is reached over condemned nodes from condemned ones is condemned
pub reached_young : (near : ℕ → ℕ → Type 0) (begin : ℕ → Type 0) (condemned : ℕ → Bool)
    → ((x y : ℕ) → near x y → condemned y ≡ true) → ((x : ℕ) → begin x → condemned x ≡ true) → (x : ℕ)
    → Reach near begin x → condemned x ≡ true
reached_young near begin condemned edges begins x (starts s) = begins x s
reached_young near begin condemned edges begins x (follows {x = y} r e) = edges y x e
