-- The objects, free items and holes of a segment, placed end to end, and how words spell them.
use Rattle.std.specs.Prelude.{◌≡◌, ℕ, zero, suc, ◌+◌, ◌-◌, ◌/◌, ◌%◌, ◌≤◌, ◌⊎◌, List, [], ◌∷◌, ◌++◌, length, Option}
use Rattle.std.specs.Prelude.{Some, None, nat_le, nat_lt, nat_eq, if◌then◌else◌, ◌==◌, map, false}
pub use Rattle.clr_types.specs.Bits.{unmarked}
use Rattle.clr_types.specs.Types.{TypeRow, form_at, size_of, is_array, mt_of}
use Rattle.clr_types.specs.Ranges.{Piece, piece_end}
use Rattle.clr_types.specs.declared.item.Item.{Item}

-- a part of a segment: an item, or a hole, the rest of a thread's context, which isn't listed
pub data Part : Type 0 where
  item_part : Item → Part
  rest_part : (low high : ℕ) → Part

-- where a part starts
abbrev pub start_of : Part → ℕ
start_of (item_part i) = i.place
start_of (rest_part low high) = low

-- where the next part starts
abbrev pub part_end : Part → ℕ
part_end (item_part i) = i.place + i.size
part_end (rest_part low high) = high

-- the range that an item fills
abbrev pub item_piece : Item → Piece
item_piece i = record { place = i.place; size = i.size }

-- the range that a part fills
abbrev pub piece_of : Part → Piece
piece_of (item_part i) = item_piece i
piece_of (rest_part low high) = record { place = low; size = high - low }

-- the items among parts
abbrev pub items_in : List Part → List Item
items_in [] = []
items_in (item_part i ∷ ps) = i ∷ items_in ps
items_in (rest_part low high ∷ ps) = items_in ps

-- the number of the type that a method table word names
abbrev pub type_number : ℕ → ℕ
type_number w = (unmarked w - mt_of 0) / 64

-- the end of the first hole that starts at p
abbrev pub hole_from : List (Option Piece) → ℕ → Option ℕ
hole_from [] p = None
hole_from (None ∷ hs) p = hole_from hs p
hole_from (Some h ∷ hs) p = if nat_eq h.place p then Some (piece_end h) else hole_from hs p

-- what a reader of the words knows: the types, the words by address, and the holes
pub record Sight : Type 0 where
  pub rows : List TypeRow
  pub word : ℕ → ℕ
  pub holes : List (Option Piece)

-- the length that the word after the method table word gives, where there is one
unfoldable pub length_at : List TypeRow → (ℕ → ℕ) → ℕ → ℕ
length_at rows word p = if is_array (form_at rows (type_number (word p))) then word (p + 8) else 0

-- the item that the words at p name
unfoldable pub item_at : List TypeRow → (ℕ → ℕ) → ℕ → Item
item_at rows word p =
    record {
      place = p;
      size = size_of (form_at rows (type_number (word p))) (length_at rows word p);
      type_id = record { 0 = type_number (word p) };
      len = length_at rows word p;
    }

-- The words at p name an item. The length of a free item is a multiple of 8, so that its size is 24 and its length.
pub record NamesItem (rows : List TypeRow) (word : ℕ → ℕ) (p : ℕ) : Type 0 where
  pub known : type_number (word p) ≤ length rows
  pub mt : unmarked (word p) ≡ mt_of (type_number (word p))
  pub least : 24 ≤ (item_at rows word p).size
  pub most : (item_at rows word p).size ≤ 1073741824
  pub whole : (item_at rows word p).size % 8 ≡ 0
  pub free : type_number (word p) ≡ 0 → word (p + 8) % 8 ≡ 0

-- from p to e stand exactly these parts
abbrev pub Spells : Sight → ℕ → List Part → ℕ → Type 0
Spells s p [] e = p ≡ e
Spells s p (item_part i ∷ ps) e = (hole_from s.holes p ≡ None) × (i ≡ item_at s.rows s.word p)
    × NamesItem s.rows s.word p × Spells s (p + i.size) ps e
Spells s p (rest_part low high ∷ ps) e =
    (low ≡ p) × (hole_from s.holes p ≡ Some high) × (p + 24 ≤ high) × (high % 8 ≡ 0) × Spells s high ps e

-- the part at p, where a hole ends that may start there
abbrev pub part_from : Sight → ℕ → Option ℕ → Part
part_from s p None = item_part (item_at s.rows s.word p)
part_from s p (Some high) = rest_part p high

-- the parts from p to e, where there are at most `fuel`
abbrev pub parts : ℕ → Sight → ℕ → ℕ → List Part
parts zero s p e = []
parts (suc fuel) s p e =
    if nat_le e p then [] else part_from s p (hole_from s.holes p)
    ∷ parts fuel s (part_end (part_from s p (hole_from s.holes p))) e

-- a part stands in a list
abbrev pub Among : List Part → Part → Type 0
Among [] m = ⊥
Among (x ∷ xs) m = (m ≡ x) ⊎ Among xs m

-- the parts that start at c or above
abbrev pub from_place : List Part → ℕ → List Part
from_place [] c = []
from_place (x ∷ xs) c = if nat_lt (start_of x) c then from_place xs c else x ∷ xs

-- ns in the place of the parts from a to c
abbrev pub replace_run : List Part → ℕ → ℕ → List Part → List Part
replace_run [] a c ns = []
replace_run (x ∷ xs) a c ns = if nat_eq (start_of x) a then ns ++ from_place xs c else x ∷ replace_run xs a c ns

-- parts that start at p begin or end at c
abbrev pub IsBoundary : List Part → ℕ → ℕ → Type 0
IsBoundary [] p c = c ≡ p
IsBoundary (x ∷ xs) p c = (c ≡ p) ⊎ IsBoundary xs (part_end x) c

-- the item of type t and length n at a
abbrev pub made_item : List TypeRow → ℕ → ℕ → ℕ → Item
made_item rows a t n = record { place = a; size = size_of (form_at rows t) n; type_id = record { 0 = t }; len = n }

-- what the type and the length of an item have to be
pub record IsMakeable (rows : List TypeRow) (t n : ℕ) : Type 0 where
  pub known : t ≤ length rows
  pub no_length : is_array (form_at rows t) ≡ false → n ≡ 0
  pub least : 24 ≤ size_of (form_at rows t) n
  pub most : size_of (form_at rows t) n ≤ 1073741824
  pub whole : size_of (form_at rows t) n % 8 ≡ 0
  pub free : t ≡ 0 → n % 8 ≡ 0

-- the free item of this size at a
abbrev pub free_item : ℕ → ℕ → Item
free_item a size = record { place = a; size = size; type_id = record { 0 = 0 }; len = size - 24 }

-- the hole from low to high, none where it is empty
abbrev pub rest_parts : ℕ → ℕ → List Part
rest_parts low high = if low == high then [] else rest_part low high ∷ []

-- the parts that start below c
abbrev pub until_place : List Part → ℕ → List Part
until_place [] c = []
until_place (x ∷ xs) c = if nat_lt (start_of x) c then x ∷ until_place xs c else []

-- an item further down
abbrev pub lowered_item : ℕ → Item → Item
lowered_item d i = record i { place = i.place - d }

-- items further down
abbrev pub lowered : ℕ → List Item → List Item
lowered d items = map (lowered_item d) items

-- items as parts
abbrev pub item_parts : List Item → List Part
item_parts items = map item_part items
