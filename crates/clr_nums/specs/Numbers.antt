-- Units of addresses, and numbers as text.
use Rattle.std.specs.Prelude.{ℕ, zero, suc, ◌+◌, ◌*◌, ◌/◌, ◌%◌, ◌<◌, ◌≤◌, Bool, false, not, ◌&&◌, ◌||◌, ◌==◌, nat_lt}
use Rattle.std.specs.Prelude.{if◌then◌else◌, List, [], ◌∷◌, length}
use Rattle.std.specs.Char.{is_ascii_digit}
use Rattle.std.specs.List.{list_all}
use Rattle.std.specs.Int.{is_in_range}

-- the address lies in the unit of index i
abbrev pub IsInUnit : ℕ → ℕ → ℕ → Type 0
IsInUnit unit i addr = (i * unit ≤ addr) × (addr < i * unit + unit)

-- some address of [lo, hi) lies in the unit of index i
abbrev pub MeetsUnit : ℕ → ℕ → ℕ → ℕ → Type 0
MeetsUnit unit i lo hi = (addr : ℕ) × ((lo ≤ addr) × (addr < hi) × IsInUnit unit i addr)

-- the form of a decimal number: digits with no 0 (the byte 48) in front, or 0 alone
abbrev pub is_decimal_form : List ℕ → Bool
is_decimal_form [] = false
is_decimal_form (digit ∷ []) = is_ascii_digit digit
is_decimal_form (first ∷ second ∷ more) = not (first == 48) && list_all is_ascii_digit (first ∷ second ∷ more)

-- the two decimal digits of a number below 100
abbrev pub decimal_pair : ℕ → List ℕ
decimal_pair n = (48 + n / 10) ∷ (48 + n % 10) ∷ []

-- the byte of the hexadecimal digit d, in lower case: 48 is that of 0, and 97 that of a
abbrev pub hex_digit : ℕ → ℕ
hex_digit d = if nat_lt d 10 then 48 + d else 87 + d

-- the last `count` hexadecimal digits of n, followed by more
abbrev pub hex_onto : ℕ → ℕ → List ℕ → List ℕ
hex_onto zero n more = more
hex_onto (suc count) n more = hex_onto count (n / 16) (hex_digit (n % 16) ∷ more)

-- the two hexadecimal digits of a byte
abbrev pub hex_pair : ℕ → List ℕ
hex_pair byte = hex_digit (byte / 16) ∷ hex_digit (byte % 16) ∷ []

-- 16 hexadecimal digits
unfoldable pub hex16 : ℕ → List ℕ
hex16 n = hex_onto 16 n []

-- a byte of 0 to 9 or a to f
abbrev pub is_hex_digit : ℕ → Bool
is_hex_digit byte = is_in_range 48 57 byte || is_in_range 97 102 byte

-- the form of a number in hexadecimal: 16 digits
abbrev pub is_hex_form : List ℕ → Bool
is_hex_form text = (length text == 16) && list_all is_hex_digit text
