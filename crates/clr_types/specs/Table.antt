-- The table of types as it is kept: the names and the method tables in order, with unused space as number 0.
use Rattle.std.specs.Prelude.{◌≡◌, ◌≢◌, ℕ, ◌+◌, ◌*◌, ◌≤◌, nat_le, max, List, [], ◌∷◌, length, if◌then◌else◌, Bool, true}
use Rattle.std.specs.Prelude.{false, Option, Some, None}
use Rattle.std.specs.Str.{bytes_eq}
use Rattle.std.specs.List.{AllByRecursion}
use Rattle.clr_types.specs.declared.fault.DefineFault.{DefineFault}
use Rattle.clr_types.specs.declared.fault.DefineFault.TheVariants.{Duplicate, BadShape, TooManyTypes}
use Rattle.clr_types.specs.Types.{Form, class_form, references_form, bytes_form, structs_form, TypeRow, is_lawful_form}
use Rattle.clr_types.specs.Types.{free_name}

-- what a method table says of a type: all but its name
pub record Described : Type 0 where
  pub form : Form
  pub finalizer : Bool

-- the bytes of an object besides its elements
abbrev pub base_size : Form → ℕ
base_size (class_form pattern) = max 24 (16 + 8 * length pattern)
base_size references_form = 24
base_size bytes_form = 24
base_size (structs_form pattern) = 24

-- the bytes of one element, and 0 where there are no elements
abbrev pub element_size : Form → ℕ
element_size (class_form pattern) = 0
element_size references_form = 8
element_size bytes_form = 1
element_size (structs_form pattern) = 8 * length pattern

-- a name and what its type is
abbrev pub row_of : List ℕ → Described → TypeRow
row_of name table = record { name = name; form = table.form; finalizer = table.finalizer }

-- names and method tables, put together in their order
abbrev pub rows_of : List (List ℕ) → List Described → List TypeRow
rows_of [] tables = []
rows_of (name ∷ names) [] = []
rows_of (name ∷ names) (table ∷ tables) = row_of name table ∷ rows_of names tables

-- unused space, as the row of number 0
abbrev pub free_row : TypeRow
free_row = record { name = free_name; form = bytes_form; finalizer = false }

-- the types that a script defined: all rows but that of unused space
abbrev pub without_first : List TypeRow → List TypeRow
without_first [] = []
without_first (row ∷ rows) = rows

-- the number of the first of these names that is this one, counted from n
abbrev pub name_number : ℕ → List (List ℕ) → List ℕ → Option ℕ
name_number n [] name = None
name_number n (known ∷ names) name = if bytes_eq known name then Some n else name_number (n + 1) names name

-- the first refusal that fits, by the number that has the name, whether the shape is lawful, and how many types there
-- are
abbrev pub first_refusal : Option ℕ → Bool → ℕ → Option DefineFault
first_refusal (Some n) lawful count = Some Duplicate
first_refusal None false count = Some BadShape
first_refusal None true count = if nat_le 1000 count then Some TooManyTypes else None

-- what a script may define
pub record IsLawfulRow (row : TypeRow) : Type 0 where
  pub form : is_lawful_form row.form row.finalizer ≡ true
  pub name : row.name ≢ free_name

-- no two rows have one name
abbrev pub HasDistinctNames : List TypeRow → Type 0
HasDistinctNames [] = Unit {0}
HasDistinctNames (row ∷ rows) = AllByRecursion (λ (other : TypeRow). row.name ≢ other.name) rows × HasDistinctNames rows

-- what holds of the names and the method tables of every table of types
pub record IsTable (names : List (List ℕ)) (tables : List Described) : Type 0 where
  pub together : length tables ≡ length names
  pub free_first : rows_of names tables ≡ free_row ∷ without_first (rows_of names tables)
  pub few : length tables ≤ 1001
  pub lawful : AllByRecursion IsLawfulRow (without_first (rows_of names tables))
  pub distinct : HasDistinctNames (without_first (rows_of names tables))
