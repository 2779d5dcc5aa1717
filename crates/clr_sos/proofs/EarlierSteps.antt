-- Steps of threads, and the fronts of those before each.
use Rattle.std.proofs.Common.{◌≡◌, ℕ, suc, zero, ◌<◌, ◌==◌, ◌||◌, Bool, true, false, List, [], ◌∷◌, ◌++◌, length}
use Rattle.std.proofs.Common.{◌+◌, ◌≤◌, drop, take, get_or, refl, sym, ◌∙◌, ap, subst, arith, inl, inr, append_assoc}
use Rattle.std.proofs.Common.{append-nil, drop-cons}
use Rattle.std.specs.List.{list_any}
use Rattle.std.proofs.lemmas.List.{drop_all}
use Rattle.clr_types.specs.Rising.{IsIn}
use Rattle.clr_types.proofs.RisingLists.{in_cons}
use Rattle.clr_sos.specs.Steps.{fronts_among, fronts_of, is_among, with_earlier}
use Rattle.clr_sos.specs.declared.step.Step.{Step}

-- ---- the fronts of earlier threads

or_joined : (a b c : Bool) → (a || (b || c)) ≡ ((a || b) || c)
or_joined true b c = refl
or_joined false b c = refl

among_both : (xs ys : List ℕ) (a : ℕ) → is_among (xs ++ ys) a ≡ (is_among xs a || is_among ys a)
among_both [] ys a = refl
among_both (x ∷ xs) ys a =
    ap (λ (b : Bool). (x == a) || b) (among_both xs ys a) ∙ or_joined (x == a) (is_among xs a) (is_among ys a)

-- a front of one of them
pub among_any : (steps : List Step) (a : ℕ)
    → list_any (λ (s : Step). is_among (fronts_of s) a) steps ≡ is_among (fronts_among steps) a
among_any [] a = refl
among_any (s ∷ steps) a =
    ap (λ (b : Bool). is_among (fronts_of s) a || b) (among_any steps a)
    ∙ sym (among_both (fronts_of s) (fronts_among steps) a)

-- ---- each with those before it

pub as_many : (earlier : List ℕ) (steps : List Step) → length (with_earlier earlier steps) ≡ length steps
as_many earlier [] = refl
as_many earlier (s ∷ steps) = ap (λ (n : ℕ). suc n) (as_many (earlier ++ fronts_of s) steps)

earlier_at : (earlier : List ℕ) (steps : List Step) (i : ℕ) (d : List ℕ × Step) (s : Step) → i < length steps
    → get_or (with_earlier earlier steps) i d ≡ (earlier ++ fronts_among (take i steps), get_or steps i s)
earlier_at earlier [] i d s l = absurd (omega arith)
earlier_at earlier (x ∷ steps) zero d s l = ap (λ (xs : List ℕ). (xs, x)) (sym (append-nil earlier))
earlier_at earlier (x ∷ steps) (suc i) d s l =
    earlier_at (earlier ++ fronts_of x) steps i d s (omega arith)
    ∙ ap (λ (xs : List ℕ). (xs, get_or steps i s)) (append_assoc earlier (fronts_of x) (fronts_among (take i steps)))

-- what thread i has begun, and the fronts of those before it
pub thread_at : (steps : List Step) (i : ℕ) (d : List ℕ × Step) (s : Step) → i < length steps
    → get_or (with_earlier [] steps) i d ≡ (fronts_among (take i steps), get_or steps i s)
thread_at steps i d s l = earlier_at [] steps i d s l

-- ---- what holds of each from one on

module _ {X : Type 0} (P : X → Type 0) (xs : List X) (i : ℕ) where
  pub all_drop : (d : X) → i < length xs → P (get_or xs i d) → ((x : X) → IsIn x (drop (i + 1) xs) → P x) → (x : X)
      → IsIn x (drop i xs) → P x
  all_drop d l here rest x m =
      let next : suc i ≡ i + 1 = omega arith in
      let split = drop-cons xs i d l ∙ ap (λ (n : ℕ). get_or xs i d ∷ drop n xs) next in
      elim (in_cons (subst (IsIn x) split m)) [ inl same ↦ subst P (sym same) here | inr more ↦ rest x more ]

  pub none_left : length xs ≤ i → (x : X) → IsIn x (drop i xs) → P x
  none_left l x m = elim (subst (IsIn x) (drop_all i xs l) m) [ ]
