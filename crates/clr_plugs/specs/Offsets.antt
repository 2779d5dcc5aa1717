-- Offsets of plugs as bits of words, a bit for each 8 bytes, and lists of them.
use Rattle.std.specs.Prelude.{◌≡◌, ◌⊎◌, ℕ, ◌+◌, ◌*◌, ◌/◌, ◌%◌, ◌^◌, ◌<◌, ◌≤◌, Bool, true, List, get_or, set, nat_eq}
use Rattle.std.specs.Prelude.{bit_or}
use Rattle.std.specs.Int.{bit_at}
use Rattle.clr_types.specs.Rising.{IsIn}
use Rattle.clr_plugs.specs.Plans.{AreSpaced}

-- whether the words have the offset 8 * n
abbrev pub has_unit : List ℕ → ℕ → Bool
has_unit words n = nat_eq (bit_at (get_or words (n / 64) 0) (n % 64)) 1

-- the words with it
abbrev pub with_unit : List ℕ → ℕ → List ℕ
with_unit words n = set words (n / 64) (bit_or (get_or words (n / 64) 0) (1 * 2 ^ (n % 64) % 2 ^ 64))

-- two plugs start at least 24 bytes apart
abbrev pub AreApart : List ℕ → Type 0
AreApart words = (i j : ℕ) → i < j → has_unit words i ≡ true → has_unit words j ≡ true → i + 3 ≤ j

-- the offsets 8 * n that the words have, for each n below `past`, by rising number
pub record AreListed (words : List ℕ) (past : ℕ) (offsets : List ℕ) : Type 0 where
  pub spaced : AreSpaced 0 offsets
  pub each : (o : ℕ) → IsIn o offsets
      → (o % 8 ≡ 0) × ((o / 8 < past) × (has_unit words (o / 8) ≡ true))
  pub all : (n : ℕ) → n < past → has_unit words n ≡ true → IsIn (8 * n) offsets

-- a bit of a word stands for an offset
pub record IsBitOf (word low o : ℕ) : Type 0 where
  pub bit : ℕ
  pub within : bit < 64
  pub is : o ≡ low + 8 * bit
  pub here : bit_at word bit ≡ 1

-- the bits of a word can be listed behind these offsets
pub record CanList (word low : ℕ) (before : List ℕ) : Type 0 where
  pub spaced : AreSpaced 0 before
  pub below : (o i : ℕ) → IsIn o before → i < 64 → bit_at word i ≡ 1 → o + 24 ≤ low + 8 * i
  pub apart : (i j : ℕ) → i < j → j < 64 → bit_at word i ≡ 1 → bit_at word j ≡ 1 → i + 3 ≤ j
  pub small : (o : ℕ) → IsIn o before → o < low
  pub high : low + 512 ≤ 16384

-- the bits of a word were listed behind these offsets
pub record HasListed (word low : ℕ) (before after : List ℕ) : Type 0 where
  pub spaced : AreSpaced 0 after
  pub kept : (o : ℕ) → IsIn o before → IsIn o after
  pub each : (o : ℕ) → IsIn o after → IsIn o before ⊎ IsBitOf word low o
  pub all : (i : ℕ) → i < 64 → bit_at word i ≡ 1 → IsIn (low + 8 * i) after
