-- The tests of all that an image names, and what follows where none fails.
use Rattle.std.proofs.Common.{◌≡◌, ℕ, ◌+◌, ◌*◌, ◌-◌, true, false, List, [], ◌∷◌, ◌++◌, length, map, Option, Some, None}
use Rattle.std.proofs.Common.{refl, sym, ◌∙◌, ap}
use Rattle.std.specs.List.{AllByRecursion}
use Rattle.clr_types.specs.Rising.{first, IsIn, later}
use Rattle.clr_types.specs.declared.item.Item.{Item}
use Rattle.clr_sos.specs.CheckedCells.{or_else}
use Rattle.clr_sos.specs.Faults.{is_name}
use Rattle.clr_format.specs.Images.{Parts, tests_in}
use Rattle.clr_format.specs.NameTests.{final_tests, first_failed, handle_tests, name_tests, reference_test, step_tests}
use Rattle.clr_format.specs.NameTests.{Test, test_from, tests_of, with_earlier}
use Rattle.clr_load.specs.TableTests.{first_in_tables}
use Rattle.clr_load.proofs.NameSteps.{failed_both}

or_joined : (a b c : Option ℕ) → or_else (or_else a b) c ≡ or_else a (or_else b c)
or_joined None b c = refl
or_joined (Some o) b c = refl

-- the tests of all that an image names: the references, and then the locals and tables
pub tests_are : (p : Parts) → first_failed (tests_in p)
    ≡ or_else (first_failed (map (reference_test p.body.items) p.body.references))
    (first_in_tables p.rest p.types p.body.heap p.body.items)
tests_are p =
    let A = map (reference_test p.body.items) p.body.references in
    let B = tests_of 8 (name_tests p.body.items) (p.rest.tables_at - 8192) p.rest.locals in
    let C = tests_of 40 (step_tests p.types p.body.items p.body.heap) (p.rest.tables_at + 8)
    (with_earlier [] p.rest.tables.steps) in
    let D = tests_of 32 (handle_tests p.body.items) (p.rest.tables_at + 656) p.rest.tables.handles in
    let E = tests_of 8 (final_tests p.types p.body.items)
    (p.rest.tables_at + 656 + 32 * length p.rest.tables.handles + 8) p.rest.tables.entries in
    let F = tests_of 8 (final_tests p.types p.body.items)
    (p.rest.tables_at + 656 + 32 * length p.rest.tables.handles + 8 + 8 * length p.rest.tables.entries + 8)
    p.rest.tables.ready in
    let a : Option ℕ = first_failed (map (reference_test p.body.items) p.body.references) in
    joined ((((A ++ B) ++ C) ++ D) ++ E) F a _
    (joined (((A ++ B) ++ C) ++ D) E a _ (joined ((A ++ B) ++ C) D a _ (joined (A ++ B) C a _ (failed_both A B))))
  where
    joined : (xs ys : List Test) (a b : Option ℕ) → first_failed xs ≡ or_else a b
        → first_failed (xs ++ ys) ≡ or_else a (or_else b (first_failed ys))
    joined xs ys a b e =
        failed_both xs ys ∙ ap (λ (o : Option ℕ). or_else o (first_failed ys)) e ∙ or_joined a b (first_failed ys)

pub or_both : (o behind : Option ℕ) → or_else o behind ≡ None → (o ≡ None) × (behind ≡ None)
or_both None behind e = (refl, e)
or_both (Some a) behind e = absurd cc

abbrev pub Passes : Test → Type 0
Passes t = t.1 ≡ true

pub all_passed : (ts : List Test) → first_failed ts ≡ None → AllByRecursion Passes ts
unfolding first_failed
all_passed [] e = tt
all_passed ((o, true) ∷ ts) e = (refl, all_passed ts e)
all_passed ((o, false) ∷ ts) e = absurd cc

moved_back : (o : ℕ) (ts : List Test) → AllByRecursion Passes (map (test_from o) ts) → AllByRecursion Passes ts
moved_back o [] all = tt
moved_back o (t ∷ ts) all = (all.0, moved_back o ts all.1)

-- the tests of each
pub each_passed : {X : Type 0} (stride : ℕ) (test : X → List Test) (o : ℕ) (xs : List X)
    → first_failed (tests_of stride test o xs) ≡ None → (x : X) → IsIn x xs → AllByRecursion Passes (test x)
each_passed stride test o [] e x m = elim m [ ]
each_passed stride test o (y ∷ xs) e x first =
    moved_back o (test x) (all_passed (map (test_from o) (test x))
    (or_both (first_failed (map (test_from o) (test x))) (first_failed (tests_of stride test (o + stride) xs))
    (sym (failed_both (map (test_from o) (test x)) (tests_of stride test (o + stride) xs)) ∙ e)).0)
each_passed stride test o (y ∷ xs) e x (later m) =
    each_passed stride test (o + stride) xs
    (or_both (first_failed (map (test_from o) (test y))) (first_failed (tests_of stride test (o + stride) xs))
    (sym (failed_both (map (test_from o) (test y)) (tests_of stride test (o + stride) xs)) ∙ e)).1 x m

-- what references name
pub names_passed : (items : List Item) (references : List (ℕ × ℕ))
    → first_failed (map (reference_test items) references) ≡ None
    → AllByRecursion (λ (x : ℕ). is_name items x ≡ true) (map (λ (r : ℕ × ℕ). r.1) references)
names_passed items references e = go references (all_passed (map (reference_test items) references) e)
  where
    go : (rs : List (ℕ × ℕ)) → AllByRecursion Passes (map (reference_test items) rs)
        → AllByRecursion (λ (x : ℕ). is_name items x ≡ true) (map (λ (r : ℕ × ℕ). r.1) rs)
    go [] all = tt
    go ((o, x) ∷ rs) all = (all.0, go rs all.1)
