-- A pass over handles: which of them it has come past, and what one step of it takes.
use Rattle.std.specs.Prelude.{◌≡◌, ℕ, ◌-◌, ◌<◌, ◌≤◌, ◌⊎◌, false, Some}
use Rattle.std.specs.FinMap as finmap
use Rattle.clr_types.specs.declared.handle.Handle.{Handle}
use Rattle.clr_handles.specs.Places.{names_from}
use Rattle.clr_handles.specs.Tables.{Table}
use Rattle.clr_mark.specs.declared.marker.ahead.Ahead.{Ahead}
use Rattle.clr_mark.specs.declared.marker.ahead.Ahead.TheVariants.{Below, From}

-- the pass has come past this number
abbrev pub IsBehind : Ahead → ℕ → Type 0
IsBehind (From n) k = k < n
IsBehind (Below n) k = n ≤ k

-- how many numbers are ahead
abbrev pub ahead_count : Ahead → ℕ
ahead_count (From n) = 65536 - n
ahead_count (Below n) = n

-- the pass has come past no number
abbrev pub NoneIsBehind : Ahead → Type 0
NoneIsBehind ahead = (k : ℕ) → k < 65536 → IsBehind ahead k → ⊥

-- the pass has come past this handle, or it names no place from `low` on
abbrev pub IsPassed : ℕ → Ahead → ℕ → Handle → Type 0
IsPassed low ahead k row = IsBehind ahead k ⊎ (names_from low row ≡ false)

-- the pass has come past each handle that names a place from `low` on
abbrev pub AllArePassed : Table → ℕ → Ahead → Type 0
AllArePassed handles low ahead = (k : ℕ) (row : Handle) → finmap.get handles k ≡ Some row → IsPassed low ahead k row

-- a handle was taken: beside it the pass has come past no other that names a place from `low` on
pub record HasTaken (handles : Table) (low : ℕ) (old new : Ahead) (row : Handle) : Type 0 where
  pub number : ℕ
  pub in_use : finmap.get handles number ≡ Some row
  pub passed : (k : ℕ) (other : Handle) → finmap.get handles k ≡ Some other → IsBehind new k
      → (k ≡ number) ⊎ IsPassed low old k other
  pub fewer : ahead_count new < ahead_count old
