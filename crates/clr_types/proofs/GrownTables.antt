-- A table of types that has grown by a row at its end.
use Rattle.std.proofs.Common.{◌≡◌, ◌≢◌, ℕ, zero, suc, true, List, [], ◌∷◌, ◌++◌, Option, Some, None, is_some, refl, sym}
use Rattle.std.proofs.Common.{true≢false, inl, inr}
use Rattle.std.specs.Prelude.{slice_get}
use Rattle.std.specs.Str.{bytes_eq}
use Rattle.std.specs.List.{AllByRecursion}
use Rattle.std.proofs.lemmas.Bool.{cases_Bool}
use Rattle.std.proofs.lemmas.Slice.Eq.{bytes_eq-Decides}
use Rattle.clr_types.specs.Types.{TypeRow, type_row, number_of, number_with_free, is_lawful_form, free_name}
use Rattle.clr_types.specs.Table.{IsLawfulRow, HasDistinctNames}
use Rattle.clr_types.proofs.TableRows.{none_named, AllByRecursion-push, HasDistinctNames-push}

-- an element that is there is still there behind the new end
slice_get-grown : {X : Type 0} (xs : List X) (x : X) (i : ℕ) → is_some (slice_get xs i) ≡ true
    → slice_get (xs ++ x ∷ []) i ≡ slice_get xs i
slice_get-grown [] x i there = absurd (true≢false (sym there))
slice_get-grown (y ∷ ys) x zero there = refl
slice_get-grown (y ∷ ys) x (suc i) there = slice_get-grown ys x i there

-- a type that is defined stays what it is
pub type_row-grown : (rows : List TypeRow) (row : TypeRow) (t : ℕ) → is_some (type_row rows t) ≡ true
    → type_row (rows ++ row ∷ []) t ≡ type_row rows t
type_row-grown rows row zero there = refl
type_row-grown rows row (suc t) there = slice_get-grown rows row t there

-- a name that no type has is not that of unused space, and no defined type's
pub unnamed : (rows : List TypeRow) (name : List ℕ) → number_with_free rows name ≡ None
    → (name ≢ free_name) × (number_of rows name ≡ None)
unnamed rows name none =
    elim (cases_Bool (bytes_eq name free_name)) [
      | inl hit ↦ let some : ◌≡◌ {A = Option ℕ} (Some 0) None = rw hit at none in absurd cc
      | inr miss ↦ (
        λ (e : name ≡ free_name). let hit : bytes_eq name free_name
            ≡ true = (bytes_eq-Decides name free_name).1 e in absurd cc,
        rw miss at none,
      )
    ]

-- the rows are lawful, and a lawful form under a name of its own is put behind them
pub lawful-grown : (rows : List TypeRow) (row : TypeRow) → AllByRecursion IsLawfulRow rows
    → number_with_free rows row.name ≡ None → is_lawful_form row.form row.finalizer ≡ true
    → AllByRecursion IsLawfulRow (rows ++ row ∷ [])
lawful-grown rows row all none lawful =
    AllByRecursion-push IsLawfulRow rows row all (record { form = lawful; name = (unnamed rows row.name none).0 })

-- and the names still differ
pub distinct-grown : (rows : List TypeRow) (row : TypeRow) → HasDistinctNames rows
    → number_with_free rows row.name ≡ None → HasDistinctNames (rows ++ row ∷ [])
distinct-grown rows row distinct none =
    HasDistinctNames-push rows row distinct (none_named 1 rows row.name (unnamed rows row.name none).1)
