-- Tests of words one behind the other.
use Rattle.std.proofs.Common.{◌≡◌, ℕ, suc, ◌+◌, ◌*◌, ◌<◌, ◌≤◌, Bool, true, false, List, [], ◌∷◌, ◌++◌, map}
use Rattle.std.proofs.Common.{length, drop, get_or, Option, Some, None, refl, ◌∙◌, ap, arith, drop-cons}
use Rattle.std.proofs.lemmas.List.{drop_all}
use Rattle.clr_types.specs.declared.handle.Handle.{Handle}
use Rattle.clr_types.specs.declared.item.Item.{Item}
use Rattle.clr_sos.specs.CheckedCells.{or_else}
use Rattle.clr_sos.specs.Faults.{is_name}
use Rattle.clr_format.specs.NameTests.{first_failed, handle_tests, name_tests, Test, test_from, tests_of}

pub failed_both : (xs ys : List Test) → first_failed (xs ++ ys) ≡ or_else (first_failed xs) (first_failed ys)
unfolding first_failed
failed_both [] ys = refl
failed_both ((o, true) ∷ xs) ys = failed_both xs ys
failed_both ((o, false) ∷ xs) ys = refl

pub failed_one : (o : ℕ) (t : Bool) → t ≡ false → first_failed ((o, t) ∷ []) ≡ Some o
unfolding first_failed
failed_one o t e = ap (λ (b : Bool). first_failed ((o, b) ∷ [])) e

pub passed_one : (o : ℕ) (t : Bool) → t ≡ true → first_failed ((o, t) ∷ []) ≡ None
unfolding first_failed
passed_one o t e = ap (λ (b : Bool). first_failed ((o, b) ∷ [])) e

pub none_failed : first_failed [] ≡ None
unfolding first_failed
none_failed = refl

module _ {X : Type 0} (stride : ℕ) (test : X → List Test) (o : ℕ) where
  abbrev pub failed_from : ℕ → List X → Option ℕ
  failed_from i xs = first_failed (tests_of stride test (o + stride * i) xs)

  -- the tests of one, and then of the others
  pub failed_more : (i : ℕ) (x : X) (xs : List X)
      → failed_from i (x ∷ xs)
      ≡ or_else (first_failed (map (test_from (o + stride * i)) (test x))) (failed_from (i + 1) xs)
  failed_more i x xs =
      let at : o + stride * i + stride ≡ o + stride * (i + 1) = grind arith in
      failed_both (map (test_from (o + stride * i)) (test x)) (tests_of stride test (o + stride * i + stride) xs)
      ∙ ap (λ (n : ℕ). or_else (first_failed (map (test_from (o + stride * i)) (test x)))
      (first_failed (tests_of stride test n xs))) at

  pub failed_none : (i : ℕ) → failed_from i [] ≡ None
  failed_none i = none_failed

  module _ (xs : List X) (d : X) (i : ℕ) where
    here_more : i < length xs → failed_from i (drop i xs)
        ≡ or_else (first_failed (map (test_from (o + stride * i)) (test (get_or xs i d))))
        (failed_from (i + 1) (drop (i + 1) xs))
    here_more l =
        let next : suc i ≡ i + 1 = omega arith in
        ap (failed_from i) (drop-cons xs i d l ∙ ap (λ (n : ℕ). get_or xs i d ∷ drop n xs) next)
        ∙ failed_more i (get_or xs i d) (drop (i + 1) xs)

    pub here_fails : (e : ℕ) → i < length xs
        → first_failed (map (test_from (o + stride * i)) (test (get_or xs i d))) ≡ Some e
        → failed_from i (drop i xs) ≡ Some e
    here_fails e l bad = here_more l ∙ ap (λ (f : Option ℕ). or_else f (failed_from (i + 1) (drop (i + 1) xs))) bad

    pub here_passes : i < length xs → first_failed (map (test_from (o + stride * i)) (test (get_or xs i d))) ≡ None
        → failed_from i (drop i xs) ≡ failed_from (i + 1) (drop (i + 1) xs)
    here_passes l good = here_more l ∙ ap (λ (f : Option ℕ). or_else f (failed_from (i + 1) (drop (i + 1) xs))) good

    pub all_pass : length xs ≤ i → failed_from i (drop i xs) ≡ None
    all_pass l = ap (failed_from i) (drop_all i xs l) ∙ failed_none i

-- one word
pub name_fails : (items : List Item) (q place : ℕ) → is_name items place ≡ false
    → first_failed (map (test_from q) (name_tests items place)) ≡ Some q
name_fails items q place bad =
    let at : q + 0 ≡ q = omega arith in failed_one (q + 0) (is_name items place) bad ∙ ap Some at

pub name_passes : (items : List Item) (q place : ℕ) → is_name items place ≡ true
    → first_failed (map (test_from q) (name_tests items place)) ≡ None
name_passes items q place good = passed_one (q + 0) (is_name items place) good

-- the two words of a handle
pub target_fails : (items : List Item) (q : ℕ) (h : ℕ × Handle) → is_name items h.1.target ≡ false
    → first_failed (map (test_from q) (handle_tests items h)) ≡ Some (q + 16)
unfolding first_failed
target_fails items q (h, row) bad =
    ap (λ (b : Bool). first_failed ((q + 16, b) ∷ (q + 24, is_name items row.second) ∷ [])) bad

pub second_fails : (items : List Item) (q : ℕ) (h : ℕ × Handle) → is_name items h.1.target ≡ true
    → is_name items h.1.second ≡ false → first_failed (map (test_from q) (handle_tests items h)) ≡ Some (q + 24)
unfolding first_failed
second_fails items q (h, row) good bad =
    ap (λ (b : Bool). first_failed ((q + 16, b) ∷ (q + 24, is_name items row.second) ∷ [])) good
    ∙ ap (λ (b : Bool). first_failed ((q + 24, b) ∷ [])) bad

pub handle_passes : (items : List Item) (q : ℕ) (h : ℕ × Handle) → is_name items h.1.target ≡ true
    → is_name items h.1.second ≡ true → first_failed (map (test_from q) (handle_tests items h)) ≡ None
unfolding first_failed
handle_passes items q (h, row) good fine =
    ap (λ (b : Bool). first_failed ((q + 16, b) ∷ (q + 24, is_name items row.second) ∷ [])) good
    ∙ ap (λ (b : Bool). first_failed ((q + 24, b) ∷ [])) fine

-- from the first on
pub same_start : {X : Type 0} (stride : ℕ) (test : X → List Test) (o : ℕ) (xs : List X)
    → failed_from stride test o 0 xs ≡ first_failed (tests_of stride test o xs)
same_start stride test o xs =
    let at : o + stride * 0 ≡ o = grind arith in ap (λ (n : ℕ). first_failed (tests_of stride test n xs)) at
