-- Tests of numbers over lists.
use Rattle.std.proofs.Common.{◌≡◌, ℕ, Bool, true, false, List, [], ◌∷◌, filter, refl, sym, ◌∙◌, ap, inl, inr}
use Rattle.std.proofs.Common.{◌&&◌, ap₂}
use Rattle.std.specs.List.{list_all}
use Rattle.std.proofs.lemmas.Bool.{and_parts, cases_Bool}
use Rattle.clr_types.specs.Rising.{first, IsIn, later}
use Rattle.clr_types.proofs.RisingLists.{in_cons}

-- a filter keeps nothing where nothing passes
pub filter-none : (s : ℕ → Bool) (xs : List ℕ) → ((a : ℕ) → IsIn a xs → s a ≡ false) → filter s xs ≡ []
filter-none s [] each = refl
filter-none s (x ∷ xs) each = rw (each x first) (filter-none s xs (λ a m. each a (later m)))

-- and where it keeps nothing, nothing passes
pub none_pass : (s : ℕ → Bool) (xs : List ℕ) → filter s xs ≡ [] → (a : ℕ) → IsIn a xs → s a ≡ false
none_pass s [] e a m = elim m [ ]
none_pass s (x ∷ xs) e a m = elim (cases_Bool (s x)) [
  | inl on ↦ let clash : x ∷ filter s xs ≡ [] = sym (rw on refl) ∙ e in absurd cc
  | inr off ↦ elim (in_cons m) [
    | inl here ↦ ap s here ∙ off
    | inr more ↦ none_pass s xs (sym (rw off refl) ∙ e) a more
  ]
]

-- all pass where each does
pub all_true : (s : ℕ → Bool) (xs : List ℕ) → ((a : ℕ) → IsIn a xs → s a ≡ true) → list_all s xs ≡ true
all_true s [] each = refl
all_true s (x ∷ xs) each = rw (each x first) (all_true s xs (λ a m. each a (later m)))

-- and each does where all pass
pub all_pass : (s : ℕ → Bool) (xs : List ℕ) → list_all s xs ≡ true → (a : ℕ) → IsIn a xs → s a ≡ true
all_pass s [] e a m = elim m [ ]
all_pass s (x ∷ xs) e a m =
    let parts = and_parts (s x) (list_all s xs) e in
    elim (in_cons m) [ inl here ↦ ap s here ∙ parts.0 | inr more ↦ all_pass s xs parts.1 a more ]

-- tests that agree are passed by the same lists
pub all_agree : (s t : ℕ → Bool) → ((a : ℕ) → s a ≡ t a) → (xs : List ℕ) → list_all s xs ≡ list_all t xs
all_agree s t same [] = refl
all_agree s t same (x ∷ xs) = ap₂ (λ (a b : Bool). a && b) (same x) (all_agree s t same xs)
