-- The words of a memory: what its bytes spell, eight by eight, lowest byte first.
use Rattle.std.specs.Prelude.{replicate, ◌≡◌, ℕ, zero, suc, ◌+◌, ◌-◌, ◌*◌, ◌/◌, ◌%◌, ◌^◌, ◌<◌, ◌≤◌, List, [], ◌∷◌, ◌++◌}
use Rattle.std.specs.Prelude.{length, take, drop, set, get_or, refl, Bool, ◌&&◌, nat_le, nat_lt}
use Rattle.std.specs.Coded.{Coded, code_by, coded×, coded_ℕ, coded_list}
use Rattle.byteorder.specs.Endian.{little_from}

-- a memory as its callers see it: its first address, and its words in order
pub record Memory : Type 0 where
  pub base : ℕ
  pub words : List ℕ

-- a memory is stored as the pair of its parts
abbrev pub memory_code : Coded Memory
memory_code =
    code_by (ℕ × List ℕ) (coded× coded_ℕ (coded_list coded_ℕ)) (λ m. (m.base, m.words))
    (λ p. record { base = p.0; words = p.1 }) (λ _. refl)

-- where the bytes of a memory may lie: whole words, all of whose addresses fit 64 bits
pub record IsPlaced (base size : ℕ) : Type 0 where
  pub aligned : base % 8 ≡ 0
  pub whole : size % 8 ≡ 0
  pub fits : base + size < 2 ^ 64

-- ---- lists of bytes and of words

-- the number that the first eight bytes spell
unfoldable pub spelled : List ℕ → ℕ
spelled bytes = little_from 0 8 bytes

-- the first n words that bytes spell
unfoldable pub words_of : ℕ → List ℕ → List ℕ
words_of zero bytes = []
words_of (suc n) bytes = spelled bytes ∷ words_of n (drop 8 bytes)

-- n zero words; not an `abbrev`, since antt would write out a list of a literal's length
unfoldable pub zeros : ℕ → List ℕ
zeros n = replicate n 0

-- xs with ys written over it from place i on
abbrev pub overwrite : List ℕ → ℕ → List ℕ → List ℕ
overwrite xs i ys = take i xs ++ (ys ++ drop (i + length ys) xs)

-- the n words from place i on
abbrev pub part : List ℕ → ℕ → ℕ → List ℕ
part xs i n = take n (drop i xs)

-- byte k of a word, the lowest first
abbrev pub byte_of : ℕ → ℕ → ℕ
byte_of word k = word / 256 ^ k % 256

-- the word with byte k replaced
abbrev pub with_byte : ℕ → ℕ → ℕ → ℕ
with_byte word k v = word + v * 256 ^ k - byte_of word k * 256 ^ k

-- whether a number is one of those from `low` to below `high`
abbrev pub is_between : ℕ → ℕ → ℕ → Bool
is_between low high v = nat_le low v && nat_lt v high

-- ---- what stands at an address

-- the place of an address in the list of words
abbrev pub place_of : Memory → ℕ → ℕ
place_of m a = (a - m.base) / 8

-- one past the last address
abbrev pub end_of : Memory → ℕ
end_of m = m.base + 8 * length m.words

-- the word that an address lies in
abbrev pub word_at : Memory → ℕ → ℕ
word_at m a = get_or m.words (place_of m a) 0

-- the byte at an address
abbrev pub byte_at : Memory → ℕ → ℕ
byte_at m a = byte_of (word_at m a) (a % 8)

-- [a, a+n) lies in the memory, at multiples of 8
pub record Holds (m : Memory) (a n : ℕ) : Type 0 where
  pub above : m.base ≤ a
  pub below : a + n ≤ end_of m
  pub start : a % 8 ≡ 0
  pub whole : n % 8 ≡ 0

-- the n bytes from a on lie in the memory
pub record HoldsBytes (m : Memory) (a n : ℕ) : Type 0 where
  pub above : m.base ≤ a
  pub below : a + n ≤ end_of m

-- ---- memories after a write

-- the n bytes from base on, all zero
abbrev pub zeroed : ℕ → ℕ → Memory
zeroed base n = record { base = base; words = zeros (n / 8) }

-- the memory with the word at a replaced
abbrev pub with_word : Memory → ℕ → ℕ → Memory
with_word m a v = record m { words = set m.words (place_of m a) v }

-- the memory with the byte at a replaced
abbrev pub with_byte_at : Memory → ℕ → ℕ → Memory
with_byte_at m a v = with_word m a (with_byte (word_at m a) (a % 8) v)

-- the memory m, with the n bytes from `from` on of the memory o written from `to` on
abbrev pub moved : Memory → Memory → ℕ → ℕ → ℕ → Memory
moved m o to from n = record m { words = overwrite m.words (place_of m to) (part o.words (place_of o from) (n / 8)) }

-- the memory with zeros in the n bytes from a on
abbrev pub cleared : Memory → ℕ → ℕ → Memory
cleared m a n = record m { words = overwrite m.words (place_of m a) (zeros (n / 8)) }
