-- Types: a name, a form and whether there is a finaliser; sizes, slots and method table words.
use Rattle.std.specs.Prelude.{ℕ, ◌+◌, ◌*◌, max, List, [], ◌∷◌, map, length, replicate, if◌then◌else◌, ◌==◌, nat_le}
use Rattle.std.specs.Prelude.{Bool, true, false, ◌&&◌, ◌||◌, Option, Some, None, slice_get, codes, suc, zero, bytes_eq}
use Rattle.std.specs.List.{repeat, list_all, list_any}
use Rattle.clr_types.specs.Ranges.{rounded_up}
use Rattle.clr_types.specs.declared.shape.Shape.{Shape}
use Rattle.clr_types.specs.declared.shape.Shape.TheVariants.{Class, RefArray, ByteArray, StructArray}
use Rattle.clr_types.specs.declared.shape.Slot.{Slot}

-- a shape by its pattern's bytes
pub data Form : Type 0 where
  class_form : (pattern : List ℕ) → Form
  references_form : Form
  bytes_form : Form
  structs_form : (pattern : List ℕ) → Form

abbrev pub form_of : Shape → Form
form_of (Class pattern) = class_form pattern.now
form_of RefArray = references_form
form_of ByteArray = bytes_form
form_of (StructArray pattern) = structs_form pattern.now

-- a type that a script defined
pub record TypeRow : Type 0 where
  pub name : List ℕ
  pub form : Form
  pub finalizer : Bool

-- `r` says reference, `n` says number
abbrev pub is_reference : ℕ → Bool
is_reference byte = byte == 114

abbrev pub is_pattern_byte : ℕ → Bool
is_pattern_byte byte = (byte == 114) || (byte == 110)

-- A class takes at least 24 bytes, and else 16 and 8 a slot. An array has a length word before its elements;
-- a byte array's size is rounded up to a multiple of 8.
abbrev pub size_of : Form → ℕ → ℕ
size_of (class_form pattern) len = max 24 (16 + 8 * length pattern)
size_of references_form len = 24 + 8 * len
size_of bytes_form len = rounded_up 8 (24 + len)
size_of (structs_form pattern) len = 24 + 8 * (length pattern * len)

-- for each slot, whether it is a reference. The slots of an array of structs are numbered through.
abbrev pub slot_kinds : Form → ℕ → List Bool
slot_kinds (class_form pattern) len = map is_reference pattern
slot_kinds references_form len = replicate len true
slot_kinds bytes_form len = replicate len false
slot_kinds (structs_form pattern) len = repeat len (map is_reference pattern)

-- how far slot i stands from the object's place: a class's slots follow the method table word, an array's the length
-- word
abbrev pub slot_offset : Form → ℕ → ℕ
slot_offset (class_form pattern) i = 8 + 8 * i
slot_offset references_form i = 16 + 8 * i
slot_offset bytes_form i = 16 + i
slot_offset (structs_form pattern) i = 16 + 8 * i

-- the slots from slot i on, with their offsets
abbrev pub slots_from : Form → ℕ → List Bool → List Slot
slots_from form i [] = []
slots_from form i (kind ∷ kinds) = record { offset = slot_offset form i; reference = kind }
    ∷ slots_from form (i + 1) kinds

abbrev pub slots_of : Form → ℕ → List Slot
slots_of form len = slots_from form 0 (slot_kinds form len)

abbrev pub is_array : Form → Bool
is_array (class_form pattern) = false
is_array references_form = true
is_array bytes_form = true
is_array (structs_form pattern) = true

abbrev pub is_bytes : Form → Bool
is_bytes bytes_form = true
is_bytes (class_form pattern) = false
is_bytes references_form = false
is_bytes (structs_form pattern) = false

-- an array that has a reference in each element
abbrev pub is_array_with_references : Form → Bool
is_array_with_references (class_form pattern) = false
is_array_with_references references_form = true
is_array_with_references bytes_form = false
is_array_with_references (structs_form pattern) = list_any is_reference pattern

-- a class has at most 256 slots, a struct 1 to 64, and only a class has a finaliser
abbrev pub is_lawful_form : Form → Bool → Bool
is_lawful_form (class_form pattern) finalizer = list_all is_pattern_byte pattern && nat_le (length pattern) 256
is_lawful_form references_form finalizer = if finalizer then false else true
is_lawful_form bytes_form finalizer = if finalizer then false else true
is_lawful_form (structs_form pattern) finalizer =
    (list_all is_pattern_byte pattern && (nat_le 1 (length pattern) && nat_le (length pattern) 64)) &&
    (if finalizer then false else true)

-- the method table word of a type
abbrev pub mt_of : ℕ → ℕ
mt_of t = 0x00007ff000000000 + 64 * t

-- unused space has the type of number 0 and this name
abbrev pub free_name : List ℕ
free_name = codes "Free"

-- The types of the script are numbered from 1 in the order in which they were defined.
abbrev pub type_row : List TypeRow → ℕ → Option TypeRow
type_row rows zero = None
type_row rows (suc t) = slice_get rows t

-- an unknown type has the form of bytes, so that unused space, whose length is its size less 24, takes that size
abbrev pub form_of_row : Option TypeRow → Form
form_of_row None = bytes_form
form_of_row (Some row) = row.form

abbrev pub form_at : List TypeRow → ℕ → Form
form_at rows t = form_of_row (type_row rows t)

abbrev pub has_finalizer : Option TypeRow → Bool
has_finalizer None = false
has_finalizer (Some row) = row.finalizer

-- the number of the first type with this name, counted from n
abbrev pub number_from : ℕ → List TypeRow → List ℕ → Option ℕ
number_from n [] name = None
number_from n (row ∷ rows) name = if bytes_eq row.name name then Some n else number_from (n + 1) rows name

-- the number of the type that a script defined under this name
abbrev pub number_of : List TypeRow → List ℕ → Option ℕ
number_of rows name = number_from 1 rows name

-- the number of the type with this name, `Free` among them
abbrev pub number_with_free : List TypeRow → List ℕ → Option ℕ
number_with_free rows name = if bytes_eq name free_name then Some 0 else number_of rows name

-- the name of a type, and `Free` of any other number
abbrev pub named : Option TypeRow → List ℕ
named None = free_name
named (Some row) = row.name

abbrev pub name_of : List TypeRow → ℕ → List ℕ
name_of rows t = named (type_row rows t)
