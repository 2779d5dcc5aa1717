-- Members of lists of which an element was changed, and what is read from a list.
use Rattle.std.proofs.Common.{◌≡◌, ℕ, zero, suc, ◌⊎◌, inl, inr, List, [], ◌∷◌, refl, sym, ap, subst, Bool, true, false}
use Rattle.std.proofs.Common.{if◌then◌else◌, ◌==◌, Some, slice_set}
use Rattle.std.specs.Prelude.{slice_get}
use Rattle.std.proofs.lemmas.Bool.{cases_eq, eqb-true}
use Rattle.clr_types.specs.Rising.{IsIn, first, later, changed_by}
use Rattle.clr_types.proofs.RisingLists.{in_cons}

-- a number stands in a list, or doesn't
pub stands_or_not : (x : ℕ) (xs : List ℕ) → IsIn x xs ⊎ (IsIn x xs → ⊥)
stands_or_not x [] = inr (λ i. elim i [ ])
stands_or_not x (y ∷ ys) = go (cases_eq x y) (stands_or_not x ys)
  where
    go : (x ≡ y) ⊎ (x ≡ y → ⊥) → IsIn x ys ⊎ (IsIn x ys → ⊥) → IsIn x (y ∷ ys) ⊎ (IsIn x (y ∷ ys) → ⊥)
    go (inl e) more = inl (subst (λ z. IsIn z (y ∷ ys)) (sym e) first)
    go (inr apart) (inl i) = inl (later i)
    go (inr apart) (inr none) = inr (λ i. elim (in_cons i) [ inl e ↦ apart e | inr j ↦ none j ])

-- what is read from a list is a member, and a member is read at some index
pub read_member : {X : Type 0} (xs : List X) (i : ℕ) (x : X) → slice_get xs i ≡ Some x → IsIn x xs
read_member [] i x e = absurd cc
read_member (y ∷ ys) zero x e = let same : y ≡ x = cc in subst (λ z. IsIn z (y ∷ ys)) same first
read_member (y ∷ ys) (suc i) x e = later (read_member ys i x e)

pub member_read : {X : Type 0} (xs : List X) (x : X) → IsIn x xs → (i : ℕ) × (slice_get xs i ≡ Some x)
member_read [] x i = elim i [ ]
member_read (y ∷ ys) x first = (0, refl)
member_read (y ∷ ys) x (later i) = let (n, e) = member_read ys x i in (suc n, e)

-- ---- one element put anew

-- what is read then is what was read, or the new one
pub read_beside : {X : Type 0} (xs : List X) (i j : ℕ) (x y : X) → slice_get (slice_set xs i x) j ≡ Some y
    → (slice_get xs j ≡ Some y) ⊎ ((j ≡ i) × (y ≡ x))
read_beside [] i j x y e = absurd cc
read_beside (z ∷ zs) zero zero x y e = let same : x ≡ y = cc in inr (refl, sym same)
read_beside (z ∷ zs) zero (suc j) x y e = inl e
read_beside (z ∷ zs) (suc i) zero x y e = inl e
read_beside (z ∷ zs) (suc i) (suc j) x y e = go (read_beside zs i j x y e)
  where
    go : (slice_get zs j ≡ Some y) ⊎ ((j ≡ i) × (y ≡ x))
        → (slice_get (z ∷ zs) (suc j) ≡ Some y) ⊎ ((suc j ≡ suc i) × (y ≡ x))
    go (inl f) = inl f
    go (inr (n, same)) = inr (ap suc n, same)

-- a member stays, unless the new one is put in its place
pub stays_in_set : {X : Type 0} (xs : List X) (i : ℕ) (x y : X) → IsIn y xs
    → IsIn y (slice_set xs i x) ⊎ (slice_get xs i ≡ Some y)
stays_in_set [] i x y j = elim j [ ]
stays_in_set (z ∷ zs) zero x y j = go (in_cons j)
  where
    go : (y ≡ z) ⊎ IsIn y zs → IsIn y (x ∷ zs) ⊎ (Some z ≡ Some y)
    go (inl e) = inr (ap Some (sym e))
    go (inr l) = inl (later l)
stays_in_set (z ∷ zs) (suc i) x y j = go (in_cons j) (stays_in_set zs i x y)
  where
    go : (y ≡ z) ⊎ IsIn y zs → (IsIn y zs → IsIn y (slice_set zs i x) ⊎ (slice_get zs i ≡ Some y))
        → IsIn y (z ∷ slice_set zs i x) ⊎ (slice_get (z ∷ zs) (suc i) ≡ Some y)
    go (inl e) more = inl (subst (λ w. IsIn w (z ∷ slice_set zs i x)) (sym e) first)
    go (inr l) more = elim (more l) [ inl m ↦ inl (later m) | inr e ↦ inr e ]

-- ---- those of one key changed

module _ {X : Type 0} (key : X → ℕ) (k : ℕ) (change : X → X) where
  -- what a member was
  abbrev pub WasMember : List X → X → Type 0
  WasMember xs p = (q : X) × IsIn q xs × ((p ≡ q) ⊎ ((key q ≡ k) × (p ≡ change q)))

  pub out_of_changed : (xs : List X) (p : X) → IsIn p (changed_by key k change xs) → WasMember xs p
  out_of_changed [] p i = elim i [ ]
  out_of_changed (x ∷ xs) p i = go (key x == k) refl (in_cons i) (out_of_changed xs p)
    where
      go : (b : Bool) → (key x == k) ≡ b → (p ≡ (if b then change x else x)) ⊎ IsIn p (changed_by key k change xs)
          → (IsIn p (changed_by key k change xs) → WasMember xs p) → WasMember (x ∷ xs) p
      go true e (inl same) more = (x, first, inr (eqb-true (key x) k e, same))
      go false e (inl same) more = (x, first, inl same)
      go b e (inr j) more = let (q, l, is) = more j in (q, later l, is)
