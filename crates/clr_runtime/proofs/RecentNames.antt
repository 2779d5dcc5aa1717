-- Names of types by their numbers.
use Rattle.std.proofs.Common.{◌≡◌, ◌≢◌, ℕ, suc, zero, ◌+◌, ◌<◌, ◌≤◌, Bool, true, false, List, [], ◌∷◌, length}
use Rattle.std.proofs.Common.{refl, sym, ap, subst, arith, ◌∙◌, Some, if◌then◌else◌}
use Rattle.std.specs.Prelude.{slice_get}
use Rattle.std.specs.Str.{bytes_eq}
use Rattle.std.specs.List.{AllByRecursion}
use Rattle.std.proofs.lemmas.Slice.Eq.{bytes_eq-Decides}
use Rattle.clr_types.specs.Types.{TypeRow, free_name, name_of, named, number_from, number_of}
use Rattle.clr_types.specs.Table.{HasDistinctNames}
use Rattle.clr_types.specs.declared.TypeId.{TypeId}
use Rattle.clr_model.specs.LineGrammar.{is_name}
use Rattle.clr_runtime.specs.Births.{IsDefined}

-- what holds of the name of each type, and of that of unused space, holds of the name of any number
name_of_any : (P : List ℕ → Type 0) (rows : List TypeRow) (i : ℕ) → P free_name
    → AllByRecursion (λ (row : TypeRow). P row.name) rows → P (named (slice_get rows i))
name_of_any P [] i free all = free
name_of_any P (row ∷ rows) zero free all = all.0
name_of_any P (row ∷ rows) (suc i) free all = name_of_any P rows i free all.1

-- where lines can spell the names of all types, they can spell that of any number
pub is_name-any : (rows : List TypeRow) (t : ℕ) → AllByRecursion (λ (row : TypeRow). is_name row.name ≡ true) rows
    → is_name (name_of rows t) ≡ true
is_name-any rows zero all = refl
is_name-any rows (suc t) all = name_of_any (λ (name : List ℕ). is_name name ≡ true) rows t refl all

-- what holds of the name of each type holds of that of the type at a place
name_at : (P : List ℕ → Type 0) (rows : List TypeRow) (i : ℕ) → i < length rows
    → AllByRecursion (λ (row : TypeRow). P row.name) rows → P (named (slice_get rows i))
name_at P [] i below all = absurd (omega arith)
name_at P (row ∷ rows) zero below all = all.0
name_at P (row ∷ rows) (suc i) below all = name_at P rows i (omega arith) all.1

-- a type is the first with its name
number_from-named : (n : ℕ) (rows : List TypeRow) (i : ℕ) → HasDistinctNames rows → i < length rows
    → number_from n rows (named (slice_get rows i)) ≡ Some (n + i)
number_from-named n [] i distinct below = absurd (omega arith)
number_from-named n (row ∷ rows) zero distinct below =
    let same : bytes_eq row.name row.name ≡ true = (bytes_eq-Decides row.name row.name).1 refl in
    let here : n ≡ n + 0 = omega arith in
    rw same (ap (λ (k : ℕ). Some k) here)
number_from-named n (row ∷ rows) (suc i) distinct below =
    let within : i < length rows = omega arith in
    go (number_from-named (n + 1) rows i distinct.1 within) (bytes_eq row.name (named (slice_get rows i))) refl
  where
    go : number_from (n + 1) rows (named (slice_get rows i)) ≡ Some (n + 1 + i)
        → (b : Bool) → bytes_eq row.name (named (slice_get rows i)) ≡ b
        → (if b then Some n else number_from (n + 1) rows (named (slice_get rows i))) ≡ Some (n + suc i)
    go later true is =
        absurd (name_at (λ (other : List ℕ). row.name ≢ other) rows i (omega arith) distinct.0
        ((bytes_eq-Decides row.name (named (slice_get rows i))).0 is))
    go later false is = let sum : n + 1 + i ≡ n + suc i = omega arith in later ∙ ap (λ (k : ℕ). Some k) sum

-- the number of a type is that of its name
pub is_defined-named : (rows : List TypeRow) (t : TypeId) → HasDistinctNames rows → t.0 ≢ 0 → t.0 < length rows + 1
    → IsDefined rows (name_of rows t.0) (Some t)
is_defined-named rows t distinct some known = go t.0 refl some known
  where
    go : (n : ℕ) → t.0 ≡ n → n ≢ 0 → n < length rows + 1 → IsDefined rows (name_of rows t.0) (Some t)
    go zero is none below = absurd (none refl)
    go (suc i) is none below =
        let within : i < length rows = omega arith in
        let sum : 1 + i ≡ suc i = omega arith in
        let found = number_from-named 1 rows i distinct within ∙ ap (λ (k : ℕ). Some k) sum in
        let here : (number_of rows (name_of rows t.0) ≡ Some t.0) =
        subst (λ (k : ℕ). number_of rows (name_of rows k) ≡ Some k) (sym is) found in
        (here, omega (arith, is), omega (arith, is, below))
