-- Memories whose bytes are stored from the first on, and sparse ones.
use Rattle.std.specs.Prelude.{◌≡◌, ℕ, ◌*◌, ◌/◌, List, length, Option, None, Some}
use Rattle.std.specs.Global.{Box}
use Rattle.clr_mem.specs.Words.{IsPlaced, words_of}

-- the words of a memory: what its bytes spell, or those of the sparse one
abbrev pub words_in : List ℕ → Option (Box (List ℕ)) → List ℕ
words_in bytes None = words_of (length bytes / 8) bytes
words_in bytes (Some pages) = pages.value

-- they may lie at these addresses, and a sparse memory has no bytes beside
abbrev pub IsStoredAt : ℕ → List ℕ → Option (Box (List ℕ)) → Type 0
IsStoredAt base bytes None = IsPlaced base (length bytes)
IsStoredAt base bytes (Some pages) = IsPlaced base (8 * length pages.value) × (length bytes ≡ 0)

-- how many bytes there are
abbrev pub size_in : List ℕ → Option (Box (List ℕ)) → ℕ
size_in bytes None = length bytes
size_in bytes (Some pages) = 8 * length pages.value

-- a memory of `len` bytes from `base` on
pub record IsMemory (base len : ℕ) (bytes : List ℕ) (far : Option (Box (List ℕ))) : Type 0 where
  pub stored : IsStoredAt base bytes far
  pub counted : len ≡ size_in bytes far
