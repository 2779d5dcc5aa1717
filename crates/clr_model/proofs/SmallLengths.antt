-- An array that fits in a small segment has a small length.
use Rattle.std.proofs.Common.{◌≡◌, ℕ, zero, suc, ◌*◌, ◌≤◌, Bool, true, false, ◌&&◌, List, [], ◌∷◌}
use Rattle.std.proofs.Common.{length}
use Rattle.std.proofs.Common.{arith, nat_le, if◌then◌else◌}
use Rattle.std.specs.Prelude.{slice_get}
use Rattle.std.specs.List.{AllByRecursion, list_all}
use Rattle.std.proofs.lemmas.Bool.{and_parts, leb-true}
use Rattle.std.proofs.Math.Nat.{suc-mul}
use Rattle.clr_types.specs.Table.{IsLawfulRow}
use Rattle.clr_types.specs.Types.{bytes_form, class_form, Form, form_at, form_of_row, is_array, is_lawful_form}
use Rattle.clr_types.specs.Types.{is_pattern_byte}
use Rattle.clr_types.specs.Types.{references_form, size_of, structs_form, TypeRow}

-- a struct has a slot
abbrev HasSlots : Form → Type 0
HasSlots (class_form pattern) = Unit {0}
HasSlots references_form = Unit {0}
HasSlots bytes_form = Unit {0}
HasSlots (structs_form pattern) = 1 ≤ length pattern

row_slots : (form : Form) (b : Bool) → is_lawful_form form b ≡ true → HasSlots form
row_slots (class_form pattern) b e = tt
row_slots references_form b e = tt
row_slots bytes_form b e = tt
row_slots (structs_form pattern) b e =
    let p = and_parts (list_all is_pattern_byte pattern && (nat_le 1 (length pattern) && nat_le (length pattern) 64))
    (if b then false else true) e in
    let q = and_parts (list_all is_pattern_byte pattern) (nat_le 1 (length pattern) && nat_le (length pattern) 64) p.0
    in
    let r = and_parts (nat_le 1 (length pattern)) (nat_le (length pattern) 64) q.1 in
    leb-true 1 (length pattern) r.0

at_row : (rows : List TypeRow) (t : ℕ) → AllByRecursion IsLawfulRow rows → HasSlots (form_of_row (slice_get rows t))
at_row [] t all = tt
at_row (row ∷ rows) zero all = row_slots row.form row.finalizer all.0.form
at_row (row ∷ rows) (suc t) all = at_row rows t all.1

form_slots : (rows : List TypeRow) (t : ℕ) → AllByRecursion IsLawfulRow rows → HasSlots (form_at rows t)
form_slots rows zero all = tt
form_slots rows (suc t) all = at_row rows t all

at_least : (n len : ℕ) → 1 ≤ n → len ≤ n * len
at_least zero len l = absurd (omega arith)
at_least (suc n) len l = let e = suc-mul n len in omega arith

small : (form : Form) (len : ℕ) → HasSlots form → is_array form ≡ true → size_of form len ≤ 67108864 → len ≤ 67108864
small (class_form pattern) len some array fits = absurd cc
small references_form len some array fits = omega arith
small bytes_form len some array fits = omega arith
small (structs_form pattern) len some array fits = let l = at_least (length pattern) len some in omega arith

pub small_length : (rows : List TypeRow) (t len : ℕ) → AllByRecursion IsLawfulRow rows
    → is_array (form_at rows t) ≡ true → size_of (form_at rows t) len ≤ 67108864 → len ≤ 67108864
small_length rows t len all array fits = small (form_at rows t) len (form_slots rows t all) array fits
