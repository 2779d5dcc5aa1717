-- Types in bytes.
use Rattle.std.specs.Prelude.{ℕ, ◌+◌, ◌==◌, nat_le, List, [], ◌∷◌, ◌++◌, length, take, drop, Bool, ◌&&◌, ◌||◌}
use Rattle.std.specs.Prelude.{if◌then◌else◌, Option, Some, None, is_none, not, position}
use Rattle.clr_types.specs.Types.{TypeRow, Form, class_form, references_form, bytes_form, structs_form}
use Rattle.clr_types.specs.Types.{is_pattern_byte, number_with_free}
use Rattle.clr_model.specs.LineGrammar.{is_name}
use Rattle.clr_fields.specs.Fields.{Found, fault, found, Fields, field, gives, is_from_to, is_up_to, text}
use Rattle.clr_fields.specs.Fields.{times, ◌>>=◌}

-- the numbers of the forms: a class, an array of references, of bytes, of structs
abbrev pub form_number : Form → ℕ
form_number (class_form pattern) = 0
form_number references_form = 1
form_number bytes_form = 2
form_number (structs_form pattern) = 3

abbrev pub form_with : ℕ → List ℕ → Form
form_with shape pattern =
    if shape == 0 then class_form pattern
    else (if shape == 1 then references_form else (if shape == 2 then bytes_form else structs_form pattern))

abbrev pub form_pattern : Form → List ℕ
form_pattern (class_form pattern) = pattern
form_pattern references_form = []
form_pattern bytes_form = []
form_pattern (structs_form pattern) = pattern

-- only a class has a finaliser
abbrev pub is_final_mark : ℕ → ℕ → Bool
is_final_mark shape final = (final == 0) || ((final == 1) && (shape == 0))

-- a class has at most 256 slots, a struct 1 to 64, and no other shape has a pattern
abbrev pub is_pattern_length : ℕ → ℕ → Bool
is_pattern_length shape n =
    if shape == 0 then nat_le n 256 else (if shape == 3 then nat_le 1 n && nat_le n 64 else n == 0)

-- a name that no type has, and that isn't `Free`
abbrev pub is_new_name : List TypeRow → List ℕ → Bool
is_new_name rows name = is_name name && is_none (number_with_free rows name)

-- a byte that no pattern has
abbrev pub is_no_slot : ℕ → Bool
is_no_slot b = not (is_pattern_byte b)

abbrev pub pattern_of : ℕ → List ℕ → ℕ → Option ℕ → Found (List ℕ)
pattern_of o pattern next None = found pattern next
pattern_of o pattern next (Some i) = fault (o + i)

-- a pattern of so many bytes; the fault of a byte is at that byte
abbrev pub pattern_field : ℕ → Fields (List ℕ)
pattern_field n bytes o =
    if nat_le (o + n) (length bytes)
    then pattern_of o (take n (drop o bytes)) (o + n) (position is_no_slot (take n (drop o bytes)))
    else fault o

abbrev pub row_with : List ℕ → ℕ → ℕ → List ℕ → TypeRow
row_with name shape final pattern =
    record { name = name; form = form_with shape pattern; finalizer = final == 1 }

-- one type more
unfoldable pub type_fields : List TypeRow → Fields (List TypeRow)
type_fields rows = do
  n ← field (is_from_to 1 128)
  name ← text n (is_new_name rows)
  shape ← field (is_up_to 3)
  final ← field (is_final_mark shape)
  len ← field (is_pattern_length shape)
  pattern ← pattern_field len
  gives (rows ++ row_with name shape final pattern ∷ [])

-- all types
unfoldable pub types_fields : Fields (List TypeRow)
types_fields = do
  n ← field (is_up_to 1000)
  times n type_fields []
