-- What images promise.
use Rattle.std.specs.Prelude.{◌≡◌, ℕ, ◌<◌, ◌^◌, true, Bool, List, ◌++◌, length}
use Rattle.std.specs.List.{flat_map}
use Rattle.clr_types.specs.Types.{TypeRow}
use Rattle.clr_fields.specs.TypeFields.{types_fields}
use Rattle.clr_save.specs.Writable.{AreWritten, AreWrittenTables}
use Rattle.clr_save.specs.Written.{bytes_of_tables}
use Rattle.clr_format.specs.TableFields.{Tables, tables_fields}
use Rattle.clr_format.specs.declared.head.Head.{Head}
use Rattle.clr_fields.specs.Fields.{field}
use Rattle.clr_save.specs.ReadsBack.{ReadsBack}
use Rattle.clr_format.specs.Saved.{type_bytes, word_bytes}

-- a lawful word is read back
abbrev pub WordLaw : Type 0
WordLaw = (lawful : ℕ → Bool) (n : ℕ) → n < 2 ^ 64 → lawful n ≡ true → ReadsBack (field lawful) (word_bytes n) n

-- types that a script may define are read back
abbrev pub TypesLaw : Type 0
TypesLaw = (rows : List TypeRow) → AreWritten rows
    → ReadsBack types_fields (word_bytes (length rows) ++ flat_map type_bytes rows) rows

-- tables that a state may have are read back
abbrev pub TablesLaw : Type 0
TablesLaw = (head : Head) (rows : List TypeRow) (t : Tables) → AreWrittenTables rows head.large t
    → ReadsBack (tables_fields head rows) (bytes_of_tables t) t
