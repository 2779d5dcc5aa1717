-- The bytes in front of a text that may stand in a name.
use Rattle.std.proofs.Common.{◌≡◌, refl, subst, arith, suc, ℕ, ◌+◌, ◌≤◌, Bool, true, false, not, cond, List, [], ◌∷◌}
use Rattle.std.proofs.Common.{◌&&◌, length, take, Some, None, position, nat_lt}
use Rattle.std.specs.List.{list_all, position_or_len}
use Rattle.std.proofs.lemmas.Bool.{and_parts, ltb-false, le-leb}
use Rattle.std.proofs.lemmas.List.{take_all}
use Rattle.std.proofs.lemmas.List.Sums.{prefix_len-le-length}
use Rattle.clr_model.specs.LineGrammar.{is_name, is_name_byte, is_name_start}
use Rattle.clr_script.proofs.WordCuts.{cond_none, cond_some}

-- the bytes before the first that does not pass
all_before : (p : ℕ → Bool) (xs : List ℕ) → list_all p (take (position_or_len (λ x. not (p x)) xs) xs) ≡ true
all_before p [] = refl
all_before p (x ∷ xs) = go (p x) refl (position_or_len (λ y. not (p y)) xs) (all_before p xs)
  where
    go : (b : Bool) → p x ≡ b → (n : ℕ) → list_all p (take n xs) ≡ true
        → list_all p (take (cond (not (not b)) (1 + n) 0) (x ∷ xs)) ≡ true
    go true is n all = let e : 1 + n ≡ suc n = omega arith in rw (e, is, all) refl
    go false is n all = refl

-- all of them where each passes
pub all_pass : (p : ℕ → Bool) (xs : List ℕ) → position (λ x. not (p x)) xs ≡ None → list_all p xs ≡ true
all_pass p xs e =
    let le : length xs ≤ position_or_len (λ x. not (p x)) xs = ltb-false _ _ (cond_none _ _ e) in
    subst (λ (l : List ℕ). list_all p l ≡ true) (take_all _ xs le) (all_before p xs)

-- and those before the place of the first that does not
pub all_pass_to : (p : ℕ → Bool) (xs : List ℕ) (at : ℕ) → position (λ x. not (p x)) xs ≡ Some at
    → (at ≤ length xs) × (list_all p (take at xs) ≡ true)
all_pass_to p xs at e =
    let h = cond_some (nat_lt (position_or_len (λ x. not (p x)) xs) (length xs)) (position_or_len (λ x. not (p x)) xs)
    at e in (
      subst (λ (n : ℕ). n ≤ length xs) h.1 (prefix_len-le-length (λ x. not (not (p x))) xs),
      subst (λ (n : ℕ). list_all p (take n xs) ≡ true) h.1 (all_before p xs),
    )

-- bytes that may stand in a name are one, where the first may begin it and they are not too many
pub name_made : (name more : List ℕ) (first : ℕ) → name ≡ first ∷ more → list_all is_name_byte name ≡ true
    → is_name_start first ≡ true → length more ≤ 127 → is_name name ≡ true
name_made name more first e named starts short =
    let all : (is_name_byte first && list_all is_name_byte more) ≡ true
    = subst (λ (l : List ℕ). list_all is_name_byte l ≡ true) e named in
    rw (e, starts, (and_parts (is_name_byte first) (list_all is_name_byte more) all).1) (le-leb _ _ short)
