-- The words of several memories, by address.
use Rattle.std.specs.Prelude.{◌≡◌, ℕ, suc, ◌+◌, ◌-◌, ◌*◌, ◌/◌, ◌%◌, ◌<◌, ◌≤◌, Bool, ◌&&◌, List, [], ◌∷◌, length, get_or}
use Rattle.std.specs.Prelude.{set, nat_le, nat_lt, if◌then◌else◌, map}
use Rattle.clr_mem.specs.Words.{Memory, place_of, word_at, end_of, zeros}

-- whether an address lies in a memory
abbrev pub contains : Memory → ℕ → Bool
contains m a = nat_le m.base a && nat_lt a (end_of m)

-- a memory with one word written
abbrev pub with_word : Memory → ℕ → ℕ → Memory
with_word m a v = record { base = m.base; words = set m.words (place_of m a) v }

-- the number of the memory that an address lies in
abbrev pub memory_index : List Memory → ℕ → ℕ
memory_index [] a = 0
memory_index (m ∷ ms) a = if contains m a then 0 else suc (memory_index ms a)

-- the word at an address
abbrev pub word_in : List Memory → ℕ → ℕ
word_in [] a = 0
word_in (m ∷ ms) a = if contains m a then word_at m a else word_in ms a

-- the memories with the word v at an address
abbrev pub store_in : List Memory → ℕ → ℕ → List Memory
store_in [] a v = []
store_in (m ∷ ms) a v = if contains m a then with_word m a v ∷ ms else m ∷ store_in ms a v

-- an address of a word in one of the memories
pub record HasWord (ms : List Memory) (a : ℕ) : Type 0 where
  pub aligned : a % 8 ≡ 0
  pub inside : memory_index ms a < length ms

-- the address of the word that the byte at an address belongs to
abbrev pub word_address : ℕ → ℕ
word_address a = a / 8 * 8

-- where a memory begins and how many bytes it has, which no write changes
abbrev pub shape_of : Memory → ℕ × ℕ
shape_of m = (m.base, 8 * length m.words)

abbrev pub shapes : List Memory → List (ℕ × ℕ)
shapes ms = map shape_of ms

-- the n bytes from a on are whole words of one memory
pub record InOne (ms : List Memory) (a n : ℕ) : Type 0 where
  pub word : HasWord ms a
  pub whole : n % 8 ≡ 0
  pub within : (d : Memory) → a + n ≤ end_of (get_or ms (memory_index ms a) d)

-- what a move of n bytes from `from` to `to` makes of the words
abbrev pub moves : ℕ → ℕ → ℕ → (ℕ → ℕ) → ℕ → ℕ
moves from to n old b = if (nat_le to b && nat_lt b (to + n)) then old (from + (b - to)) else old b

-- what clearing n bytes from a on makes of the words
abbrev pub clears : ℕ → ℕ → (ℕ → ℕ) → ℕ → ℕ
clears a n old b = if (nat_le a b && nat_lt b (a + n)) then 0 else old b

-- a memory with no word written
abbrev pub first_memory : ℕ → ℕ → Memory
first_memory base len = record { base = base; words = zeros (len / 8) }

-- memories stand one above the other
abbrev pub IsAbove : ℕ → List (ℕ × ℕ) → Type 0
IsAbove b [] = Unit {0}
IsAbove b (s ∷ ss) = (b ≤ s.0) × IsAbove b ss

abbrev pub IsApart : List (ℕ × ℕ) → Type 0
IsApart [] = Unit {0}
IsApart (s ∷ ss) = IsAbove (s.0 + s.1) ss × IsApart ss
