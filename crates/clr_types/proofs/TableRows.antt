-- Rows of the table, and what is read of them.
use Rattle.std.proofs.Common.{◌≡◌, ◌≢◌, ℕ, zero, suc, ◌+◌, ◌<◌, ◌≤◌, true, false, List, [], ◌∷◌, ◌++◌, length, get_or}
use Rattle.std.proofs.Common.{Some, None, refl, sym, ap, ◌∙◌, inl, inr, arith, length-append}
use Rattle.std.specs.Str.{bytes_eq}
use Rattle.std.specs.List.{AllByRecursion}
use Rattle.std.proofs.lemmas.Bool.{cases_Bool}
use Rattle.std.proofs.lemmas.Option.{slice_get-get_or}
use Rattle.std.proofs.lemmas.Slice.Eq.{bytes_eq-Decides}
use Rattle.clr_types.specs.Types.{TypeRow, type_row, form_at, name_of, has_finalizer, number_from, number_with_free}
use Rattle.clr_types.specs.Types.{is_lawful_form, free_name}
use Rattle.clr_types.specs.Table.{Described, rows_of, row_of, free_row, without_first, name_number, IsTable}
use Rattle.clr_types.specs.Table.{HasDistinctNames}
use Rattle.clr_types.proofs.NameLists.{bytes_eq-sym}

pub length-rows_of : (names : List (List ℕ)) (tables : List Described) → length tables ≡ length names
    → length (rows_of names tables) ≡ length names
length-rows_of [] tables same = refl
length-rows_of (name ∷ names) [] same = absurd (omega arith)
length-rows_of (name ∷ names) (table ∷ tables) same = let later = length-rows_of names tables (omega arith) in
    omega arith

pub number_from-rows_of : (n : ℕ) (names : List (List ℕ)) (tables : List Described) (name : List ℕ)
    → length tables ≡ length names → number_from n (rows_of names tables) name ≡ name_number n names name
number_from-rows_of n [] tables name same = refl
number_from-rows_of n (known ∷ names) [] name same = absurd (omega arith)
number_from-rows_of n (known ∷ names) (table ∷ tables) name same =
    rw (number_from-rows_of (n + 1) names tables name (omega arith)) refl

pub get_or-rows_of : (names : List (List ℕ)) (tables : List Described) (t : ℕ) (d : TypeRow) (e : Described)
    → length tables ≡ length names → t < length tables
    → get_or (rows_of names tables) t d ≡ row_of (get_or names t []) (get_or tables t e)
get_or-rows_of names [] t d e same below = absurd (omega arith)
get_or-rows_of [] (table ∷ tables) t d e same below = absurd (omega arith)
get_or-rows_of (name ∷ names) (table ∷ tables) zero d e same below = refl
get_or-rows_of (name ∷ names) (table ∷ tables) (suc t) d e same below =
    get_or-rows_of names tables t d e (omega arith) (omega arith)

pub rows_of-append : (names : List (List ℕ)) (tables : List Described) (name : List ℕ) (table : Described)
    → length tables ≡ length names → rows_of (names ++ name ∷ []) (tables ++ table ∷ []) ≡ rows_of names tables
    ++ row_of name table ∷ []
rows_of-append [] [] name table same = refl
rows_of-append [] (other ∷ tables) name table same = absurd (omega arith)
rows_of-append (known ∷ names) [] name table same = absurd (omega arith)
rows_of-append (known ∷ names) (other ∷ tables) name table same =
    rw (rows_of-append names tables name table (omega arith)) refl

-- a row is read by its number, with unused space as number 0
form_at-get_or : (rows : List TypeRow) (t : ℕ) → t ≤ length rows
    → form_at rows t ≡ (get_or (free_row ∷ rows) t free_row).form
form_at-get_or rows zero below = refl
form_at-get_or rows (suc t) below = let there : t < length rows = omega arith in
    rw (slice_get-get_or rows t free_row there) refl

has_finalizer-get_or : (rows : List TypeRow) (t : ℕ) → t ≤ length rows
    → has_finalizer (type_row rows t) ≡ (get_or (free_row ∷ rows) t free_row).finalizer
has_finalizer-get_or rows zero below = refl
has_finalizer-get_or rows (suc t) below = let there : t < length rows = omega arith in
    rw (slice_get-get_or rows t free_row there) refl

name_of-get_or : (rows : List TypeRow) (t : ℕ) → t ≤ length rows
    → name_of rows t ≡ (get_or (free_row ∷ rows) t free_row).name
name_of-get_or rows zero below = refl
name_of-get_or rows (suc t) below = let there : t < length rows = omega arith in
    rw (slice_get-get_or rows t free_row there) refl

pub none_named : (n : ℕ) (rows : List TypeRow) (name : List ℕ) → number_from n rows name ≡ None
    → AllByRecursion (λ (other : TypeRow). other.name ≢ name) rows
none_named n [] name none = tt
none_named n (row ∷ rows) name none =
    elim (cases_Bool (bytes_eq row.name name)) [
      | inl hit ↦ let some : Some n ≡ None = rw hit at none in cc
      | inr miss ↦ (
        λ (e : row.name ≡ name). let hit = (bytes_eq-Decides row.name name).1 e in
            cc,
        none_named (n + 1) rows name (rw miss at none),
      )
    ]

pub AllByRecursion-push : {X : Type 0} (P : X → Type 0) (xs : List X) (x : X) → AllByRecursion P xs → P x
    → AllByRecursion P (xs ++ x ∷ [])
AllByRecursion-push P [] x all here = (here, tt)
AllByRecursion-push P (y ∷ ys) x all here = (all.0, AllByRecursion-push P ys x all.1 here)

pub HasDistinctNames-push : (rows : List TypeRow) (row : TypeRow) → HasDistinctNames rows
    → AllByRecursion (λ (other : TypeRow). other.name ≢ row.name) rows → HasDistinctNames (rows ++ row ∷ [])
HasDistinctNames-push [] row distinct apart = (tt, tt)
HasDistinctNames-push (other ∷ rows) row distinct apart =
    (AllByRecursion-push _ rows row distinct.0 apart.0, HasDistinctNames-push rows row distinct.1 apart.1)

module _ {names : List (List ℕ)} {tables : List Described} (table : IsTable names tables) where
  pub rows_count : length tables ≡ length (without_first (rows_of names tables)) + 1
  rows_count =
      let whole = length-rows_of names tables table.together in
      let split : length (rows_of names tables)
      ≡ length (free_row ∷ without_first (rows_of names tables)) = ap length table.free_first in
      let same = table.together in
      omega arith

  pub row_at : (t : ℕ) (e : Described) → t < length tables
      → get_or (free_row ∷ without_first (rows_of names tables)) t free_row
      ≡ row_of (get_or names t []) (get_or tables t e)
  row_at t e below = rw (← table.free_first) (get_or-rows_of names tables t free_row e table.together below)

  pub form_of_number : (t : ℕ) (e : Described) → t ≤ length (without_first (rows_of names tables))
      → form_at (without_first (rows_of names tables)) t ≡ (get_or tables t e).form
  form_of_number t e below =
      let count = rows_count in
      form_at-get_or _ t below ∙ ap (λ (row : TypeRow). row.form) (row_at t e (omega arith))

  pub finalizer_of_number : (t : ℕ) (e : Described) → t ≤ length (without_first (rows_of names tables))
      → has_finalizer (type_row (without_first (rows_of names tables)) t) ≡ (get_or tables t e).finalizer
  finalizer_of_number t e below =
      let count = rows_count in
      has_finalizer-get_or _ t below ∙ ap (λ (row : TypeRow). row.finalizer) (row_at t e (omega arith))

  pub name_of_number : (t : ℕ) → t ≤ length (without_first (rows_of names tables))
      → name_of (without_first (rows_of names tables)) t ≡ get_or names t []
  name_of_number t below =
      let count = rows_count in
      name_of-get_or _ t below ∙ ap (λ (row : TypeRow). row.name)
      (row_at t (record { form = free_row.form; finalizer = false }) (omega arith))

  pub number_by_name : (name : List ℕ)
      → number_with_free (without_first (rows_of names tables)) name ≡ name_number 0 names name
  number_by_name name =
      let whole = number_from-rows_of 0 names tables name table.together in
      let split = ap (λ (rows : List TypeRow). number_from 0 rows name) table.free_first in
      rw (bytes_eq-sym name free_name) (sym split ∙ whole)

  named_apart : (name : List ℕ) → name_number 0 names name ≡ None
      → AllByRecursion (λ (other : TypeRow). other.name ≢ name) (free_row ∷ without_first (rows_of names tables))
  named_apart name none =
      let whole = number_from-rows_of 0 names tables name table.together in
      let split = ap (λ (rows : List TypeRow). number_from 0 rows name) table.free_first in
      none_named 0 (free_row ∷ without_first (rows_of names tables)) name (sym split ∙ whole ∙ none)

  pub rows_defined : (name : List ℕ) (made : Described)
      → without_first (rows_of (names ++ name ∷ []) (tables ++ made ∷ [])) ≡ without_first (rows_of names tables)
      ++ row_of name made ∷ []
  rows_defined name made =
      let whole = rows_of-append names tables name made table.together in
      let split = ap (λ (rows : List TypeRow). rows ++ row_of name made ∷ []) table.free_first in
      ap without_first (whole ∙ split)

  pub table_defined : (name : List ℕ) (made : Described) → name_number 0 names name ≡ None
      → is_lawful_form made.form made.finalizer ≡ true → length (without_first (rows_of names tables)) < 1000
      → IsTable (names ++ name ∷ []) (tables ++ made ∷ [])
  table_defined name made none lawful room =
      let apart = named_apart name none in
      let defined = rows_defined name made in
      let whole = rows_of-append names tables name made table.together in
      let split = ap (λ (rows : List TypeRow). rows ++ row_of name made ∷ []) table.free_first in
      let count = rows_count in
      let together = table.together in
      record {
        together = simp length-append (omega arith);
        free_first = rw defined (whole ∙ split);
        few = simp length-append (omega arith);
        lawful = rw defined (AllByRecursion-push _ _ (row_of name made) table.lawful
            (record { form = lawful; name = λ (e : name ≡ free_name). apart.0 (sym e) }));
        distinct = rw defined (HasDistinctNames-push _ (row_of name made) table.distinct apart.1);
      }
