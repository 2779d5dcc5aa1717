-- The types of an image are read back.
use Rattle.std.proofs.Common.{◌≡◌, ◌≢◌, ℕ, suc, ◌≤◌, ◌<◌, ◌+◌, ◌^◌, ◌==◌, Bool, true, false, not, ◌&&◌}
use Rattle.std.proofs.Common.{List, [], ◌∷◌, ◌++◌, length, take, drop, refl, arith, ap, sym, ◌∙◌, Some, None}
use Rattle.std.proofs.Common.{nat_le, nat_lt, le-leb, cond, append_assoc}
use Rattle.std.proofs.lemmas.List.{take_at}
use Rattle.std.proofs.lemmas.Grind.{common_steps}
use Rattle.std.proofs.lemmas.Bool.Decides.{nat_tests}
use Rattle.std.specs.List.{AllByRecursion, flat_map, list_all, position, prefix_len}
use Rattle.std.specs.Str.{bytes_eq}
use Rattle.std.proofs.lemmas.Slice.Eq.{bytes_eq-Decides}
use Rattle.clr_types.specs.Table.{HasDistinctNames, IsLawfulRow}
use Rattle.clr_types.specs.Types.{bytes_form, class_form, Form, is_lawful_form, is_pattern_byte}
use Rattle.clr_types.specs.Types.{free_name, number_from, number_of, references_form, structs_form, TypeRow}
use Rattle.clr_model.specs.LineGrammar.{is_name}
use Rattle.clr_fields.specs.Fields.{found, is_from_to, is_up_to, text}
use Rattle.clr_fields.specs.TypeFields.{form_number, form_pattern, form_with, is_final_mark, is_new_name, is_no_slot}
use Rattle.clr_fields.specs.TypeFields.{is_pattern_length, pattern_field, row_with, type_fields, types_fields}
use Rattle.clr_save.specs.ReadsBack.{ReadsBack}
use Rattle.clr_save.specs.Writable.{AreWritten, HasName}
use Rattle.clr_format.specs.Saved.{bit, type_bytes, word_bytes}
use Rattle.clr_save.proofs.Written.{appended_all, gives_back, last_back, room, same_bytes, same_value, StepsBack}
use Rattle.clr_save.proofs.Written.{text_back, then_back, times_back, word_then}

-- ---- what the fields ask

-- no byte of a pattern is bad
pub no_bad : (pattern : List ℕ) → list_all is_pattern_byte pattern ≡ true
    → prefix_len (λ b. not (is_no_slot b)) pattern ≡ length pattern
no_bad [] all = refl
no_bad (b ∷ bs) all = go (is_pattern_byte b) all (no_bad bs)
  where
    go : (good : Bool) → (good && list_all is_pattern_byte bs) ≡ true
        → (list_all is_pattern_byte bs ≡ true → prefix_len (λ b. not (is_no_slot b)) bs ≡ length bs)
        → cond (not (not good)) (1 + prefix_len (λ b. not (is_no_slot b)) bs) 0 ≡ suc (length bs)
    go true e rest = let ih = rest e in omega (arith, ih)
    go false e rest = absurd cc

pub none_bad : (pattern : List ℕ) → list_all is_pattern_byte pattern ≡ true → position is_no_slot pattern ≡ None
none_bad pattern all = go _ refl (no_bad pattern all)
  where
    go : (t : Bool) → nat_lt (prefix_len (λ b. not (is_no_slot b)) pattern) (length pattern) ≡ t
        → prefix_len (λ b. not (is_no_slot b)) pattern ≡ length pattern
        → cond t (Some (prefix_len (λ b. not (is_no_slot b)) pattern)) None ≡ None
    go true e same = absurd (grind (arith, nat_tests))
    go false e same = refl

pub pattern_back : (n : ℕ) (pattern : List ℕ) → length pattern ≡ n → list_all is_pattern_byte pattern ≡ true
    → ReadsBack (pattern_field n) pattern pattern
pattern_back n pattern len all bytes others o at =
    let fits = room bytes pattern others o at in
    let there : nat_le (o + n) (length bytes) ≡ true = le-leb (o + n) (length bytes) (omega arith) in
    let cut : take n (drop o bytes) ≡ pattern = ap (take n) at.is ∙ take_at pattern others n len in
    let none = none_bad pattern all in
    rw (there, cut, none) (ap (λ k. found pattern (o + k)) (sym len))

-- a name of 1 to 128 bytes
pub name_length : (name : List ℕ) → is_name name ≡ true → is_from_to 1 128 (length name) ≡ true
name_length [] good = absurd cc
name_length (b ∷ bs) good = grind (arith, nat_tests, common_steps)

pub shape_known : (form : Form) → is_up_to 3 (form_number form) ≡ true
shape_known (class_form pattern) = refl
shape_known references_form = refl
shape_known bytes_form = refl
shape_known (structs_form pattern) = refl

pub final_mark : (form : Form) (finalizer : Bool) → is_lawful_form form finalizer ≡ true
    → is_final_mark (form_number form) (bit finalizer) ≡ true
final_mark (class_form pattern) true good = refl
final_mark (class_form pattern) false good = refl
final_mark references_form true good = good
final_mark references_form false good = refl
final_mark bytes_form true good = good
final_mark bytes_form false good = refl
final_mark (structs_form pattern) true good = grind (arith, nat_tests, common_steps)
final_mark (structs_form pattern) false good = refl

pub length_mark : (form : Form) (finalizer : Bool) → is_lawful_form form finalizer ≡ true
    → is_pattern_length (form_number form) (length (form_pattern form)) ≡ true
length_mark (class_form pattern) finalizer good = grind (arith, nat_tests, common_steps)
length_mark references_form finalizer good = refl
length_mark bytes_form finalizer good = refl
length_mark (structs_form pattern) finalizer good = grind (arith, nat_tests, common_steps)

pub all_slots : (form : Form) (finalizer : Bool) → is_lawful_form form finalizer ≡ true
    → list_all is_pattern_byte (form_pattern form) ≡ true
all_slots (class_form pattern) finalizer good = grind (arith, nat_tests, common_steps)
all_slots references_form finalizer good = refl
all_slots bytes_form finalizer good = refl
all_slots (structs_form pattern) finalizer good = grind (arith, nat_tests, common_steps)

pub few_slots : (form : Form) (finalizer : Bool) → is_lawful_form form finalizer ≡ true
    → length (form_pattern form) ≤ 256
few_slots (class_form pattern) finalizer good = grind (arith, nat_tests, common_steps)
few_slots references_form finalizer good = omega arith
few_slots bytes_form finalizer good = omega arith
few_slots (structs_form pattern) finalizer good = grind (arith, nat_tests, common_steps)

pub same_form : (form : Form) → form_with (form_number form) (form_pattern form) ≡ form
same_form (class_form pattern) = refl
same_form references_form = refl
same_form bytes_form = refl
same_form (structs_form pattern) = refl

pub same_bit : (b : Bool) → (bit b == 1) ≡ b
same_bit true = refl
same_bit false = refl

pub small_bit : (b : Bool) → bit b < 2 ^ 64
small_bit true = omega arith
small_bit false = omega arith

pub small_shape : (form : Form) → form_number form < 2 ^ 64
small_shape (class_form pattern) = omega arith
small_shape references_form = omega arith
small_shape bytes_form = omega arith
small_shape (structs_form pattern) = omega arith

-- ---- one type

same_row : (row : TypeRow) → row_with row.name (form_number row.form) (bit row.finalizer) (form_pattern row.form) ≡ row
same_row row = let a = same_form row.form in let b = same_bit row.finalizer in rw (a, b) refl

type_shape : (row : TypeRow) → type_bytes row
    ≡ word_bytes (length row.name) ++ (row.name ++ (word_bytes (form_number row.form)
    ++ (word_bytes (bit row.finalizer) ++ (word_bytes (length (form_pattern row.form)) ++ form_pattern row.form))))
type_shape row = simp append_assoc

-- a type with a new name is one more
pub type_back : (rows : List TypeRow) (row : TypeRow) → is_new_name rows row.name ≡ true → is_name row.name ≡ true
    → is_lawful_form row.form row.finalizer ≡ true → ReadsBack (type_fields rows) (type_bytes row) (rows ++ row ∷ [])
unfolding type_fields
type_back rows row new name good =
    let one = name_length row.name name in
    let short : length row.name < 2 ^ 64 = grind (arith, nat_tests, common_steps) in
    let few = few_slots row.form row.finalizer good in
    same_bytes (type_fields rows) _ (type_bytes row) (rows ++ row ∷ []) (sym (type_shape row))
    (word_then (is_from_to 1 128) _ (length row.name) _ _ short one
    (then_back (text (length row.name) (is_new_name rows)) _ row.name _ row.name _
    (text_back (length row.name) (is_new_name rows) row.name refl new)
    (word_then (is_up_to 3) _ (form_number row.form) _ _ (small_shape row.form) (shape_known row.form)
    (word_then (is_final_mark (form_number row.form)) _ (bit row.finalizer) _ _ (small_bit row.finalizer)
    (final_mark row.form row.finalizer good)
    (word_then (is_pattern_length (form_number row.form)) _ (length (form_pattern row.form)) _ _ (omega arith)
    (length_mark row.form row.finalizer good)
    (last_back (pattern_field (length (form_pattern row.form))) _ (form_pattern row.form) (form_pattern row.form) _
    (pattern_back (length (form_pattern row.form)) (form_pattern row.form) refl
    (all_slots row.form row.finalizer good))
    (same_value _ [] _ _ (ap (λ (r : TypeRow). rows ++ r ∷ []) (same_row row)) (gives_back _))))))))

-- ---- all types

-- a name that no row has, and that one more row hasn't either
new_more : (n : ℕ) (rows : List TypeRow) (row : TypeRow) (name : List ℕ) → number_from n rows name ≡ None
    → bytes_eq row.name name ≡ false → number_from n (rows ++ row ∷ []) name ≡ None
new_more n [] row name none other = rw other refl
new_more n (r ∷ rows) row name none other = go (bytes_eq r.name name) none (new_more (n + 1) rows row name)
  where
    go : (hit : Bool) → cond hit (Some n) (number_from (n + 1) rows name) ≡ None
        → (number_from (n + 1) rows name ≡ None → bytes_eq row.name name ≡ false
        → number_from (n + 1) (rows ++ row ∷ []) name ≡ None)
        → cond hit (Some n) (number_from (n + 1) (rows ++ row ∷ []) name) ≡ None
    go true none again = absurd cc
    go false none again = again none other

not_equal : (xs ys : List ℕ) → xs ≢ ys → bytes_eq xs ys ≡ false
not_equal xs ys differ = go (bytes_eq xs ys) refl
  where
    go : (t : Bool) → bytes_eq xs ys ≡ t → t ≡ false
    go true e = absurd (differ ((bytes_eq-Decides xs ys).0 e))
    go false e = refl

all_new_more : (rows : List TypeRow) (row : TypeRow) (xs : List TypeRow)
    → AllByRecursion (λ (x : TypeRow). row.name ≢ x.name) xs
    → AllByRecursion (λ (x : TypeRow). number_of rows x.name ≡ None) xs
    → AllByRecursion (λ (x : TypeRow). number_of (rows ++ row ∷ []) x.name ≡ None) xs
all_new_more rows row [] differ new = tt
all_new_more rows row (x ∷ xs) differ new = (
  new_more 1 rows row x.name new.0 (not_equal row.name x.name differ.0),
  all_new_more rows row xs differ.1 new.1,
)

new_name : (rows : List TypeRow) (name : List ℕ) → is_name name ≡ true → name ≢ free_name
    → number_of rows name ≡ None → is_new_name rows name ≡ true
new_name rows name good used none = let e = not_equal name free_name used in rw (good, e, none) refl

rows_back : (rows xs : List TypeRow) → AllByRecursion IsLawfulRow xs → AllByRecursion HasName xs → HasDistinctNames xs
    → AllByRecursion (λ (x : TypeRow). number_of rows x.name ≡ None) xs
    → StepsBack type_fields (λ (zs : List TypeRow) (x : TypeRow). zs ++ x ∷ []) type_bytes rows xs
rows_back rows [] lawful names distinct new = tt
rows_back rows (x ∷ xs) lawful names distinct new = (
  type_back rows x (new_name rows x.name names.0 lawful.0.name new.0) names.0 lawful.0.form,
  rows_back (rows ++ x ∷ []) xs lawful.1 names.1 distinct.1 (all_new_more rows x xs distinct.0 new.1),
)

none_before : (xs : List TypeRow) → AllByRecursion (λ (x : TypeRow). number_of [] x.name ≡ None) xs
none_before [] = tt
none_before (x ∷ xs) = (refl, none_before xs)

-- all types are read back
pub types_back : (rows : List TypeRow) → AreWritten rows
    → ReadsBack types_fields (word_bytes (length rows) ++ flat_map type_bytes rows) rows
unfolding types_fields
types_back rows are =
    let few = are.few in
    let fit : is_up_to 1000 (length rows) ≡ true = le-leb (length rows) 1000 few in
    word_then (is_up_to 1000) _ (length rows) _ rows (omega arith) fit
    (same_value _ (flat_map type_bytes rows) _ rows (appended_all [] rows)
    (times_back type_fields (λ (zs : List TypeRow) (x : TypeRow). zs ++ x ∷ []) type_bytes [] rows
    (rows_back [] rows are.lawful are.names are.distinct (none_before rows))))
