-- Fields in bytes: what stands from an offset on, or the offset of the first fault.
use Rattle.std.specs.Prelude.{ℕ, zero, suc, ◌+◌, ◌==◌, nat_le, List, length, take, drop, Bool, true, ◌&&◌}
use Rattle.std.specs.Prelude.{if◌then◌else◌}
use Rattle.std.specs.Prelude.{Option, Some, None}
use Rattle.byteorder.specs.Endian.{little_from}

-- a value and the offset behind it, or the offset of the first fault
pub data Found (A : Type 0) : Type 0 where
  fault : (offset : ℕ) → Found A
  found : (value : A) (next : ℕ) → Found A

-- what stands in bytes from an offset on
abbrev pub Fields : Type 0 → Type 0
Fields A = List ℕ → ℕ → Found A

abbrev pub found_then : {A B : Type 0} → List ℕ → (A → Fields B) → Found A → Found B
found_then bytes next (fault o) = fault o
found_then bytes next (found x o) = next x bytes o

-- one thing, and behind it what follows from it
infixl 10 ◌>>=◌
abbrev pub ◌>>=◌ : {A B : Type 0} → Fields A → (A → Fields B) → Fields B
(first >>= next) bytes o = found_then bytes next (first bytes o)

-- a value that takes no bytes
abbrev pub gives : {A : Type 0} → A → Fields A
gives x bytes o = found x o

-- the word at an offset, lowest byte first, where all its bytes are there
unfoldable pub word_at : List ℕ → ℕ → Option ℕ
word_at bytes o = if nat_le (o + 8) (length bytes) then Some (little_from 0 8 (drop o bytes)) else None

abbrev pub field_of : (ℕ → Bool) → ℕ → Option ℕ → Found ℕ
field_of lawful o None = fault o
field_of lawful o (Some w) = if lawful w then found w (o + 8) else fault o

-- a word that is lawful; its fault is at its first byte
abbrev pub field : (ℕ → Bool) → Fields ℕ
field lawful bytes o = field_of lawful o (word_at bytes o)

-- any word
abbrev pub anything : ℕ → Bool
anything w = true

-- a number from low to high
abbrev pub is_from_to : ℕ → ℕ → ℕ → Bool
is_from_to low high n = nat_le low n && nat_le n high

abbrev pub is_up_to : ℕ → ℕ → Bool
is_up_to high n = nat_le n high

abbrev pub is_zero : ℕ → Bool
is_zero n = n == 0

-- so many bytes that are lawful together; their fault is at the first of them
abbrev pub text : ℕ → (List ℕ → Bool) → Fields (List ℕ)
text n lawful bytes o =
    if nat_le (o + n) (length bytes) && lawful (take n (drop o bytes)) then found (take n (drop o bytes)) (o + n)
    else fault o

-- any bytes
abbrev pub any_text : List ℕ → Bool
any_text bytes = true

-- what changes with each of so many steps that stand one behind the other
unfoldable pub times : {S : Type 0} → ℕ → (S → Fields S) → S → Fields S
times zero step s bytes o = found s o
times (suc n) step s bytes o = found_then bytes (times n step) (step s bytes o)

-- nothing follows
abbrev pub nothing_more : Fields (Unit {0})
nothing_more bytes o = if o == length bytes then found tt o else fault o
