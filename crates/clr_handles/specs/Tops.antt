-- What the table keeps beside the handles: how many there are of each kind, and how high the places are that each chunk
-- of 64 numbers names.
use Rattle.std.specs.Prelude.{◌≡◌, ℕ, ◌+◌, ◌*◌, ◌/◌, ◌<◌, ◌≤◌, ◌==◌, List, length, slice_index, Some}
use Rattle.std.specs.Prelude.{count_by, if◌then◌else◌, max, ◌&&◌, not}
use Rattle.std.specs.FinMap as finmap
use Rattle.clr_types.specs.HandleCode.{number_of_kind}
use Rattle.clr_types.specs.Kinds.{is_dependent, is_pinned_kind}
use Rattle.clr_types.specs.declared.handle.Kind.{Kind}
use Rattle.clr_types.specs.declared.handle.Handle.{Handle}
use Rattle.clr_handles.specs.Tables.{Table}

-- how many handles are pinned
abbrev pub pinned_in : Table → ℕ
pinned_in table = count_by (λ (row : Handle). is_pinned_kind row.kind) (finmap.values table)

-- how many handles are of a kind
abbrev pub kind_count : Kind → Table → ℕ
kind_count kind table =
    count_by (λ (row : Handle). number_of_kind row.kind == number_of_kind kind) (finmap.values table)

-- the counts of all kinds, by the numbers of these
abbrev pub AreCounts : Table → List ℕ → Type 0
AreCounts table counts = (kind : Kind) → slice_index counts (number_of_kind kind) ≡ kind_count kind table

-- as many handles of each kind as before
abbrev pub KeepsCounts : Table → Table → Type 0
KeepsCounts old new = (kind : Kind) → kind_count kind new ≡ kind_count kind old

-- no handle is of this kind
abbrev pub HasNone : Kind → Table → Type 0
HasNone kind table = (h : ℕ) (row : Handle) → finmap.get table h ≡ Some row → row.kind ≡ kind → ⊥

-- The greater place that a handle names. One with a second that it shouldn't have is to be looked at in any case.
abbrev pub reach : Handle → ℕ
reach row =
    if row.second == 0 then row.target
    else (if is_dependent row.kind && not (row.target == 0) then max row.target row.second
    else 18446744073709551615)

-- each handle reaches no higher than the top of its chunk
pub record AreTops (table : Table) (tops : List ℕ) : Type 0 where
  pub few : length tops ≤ 1024
  pub chunk : (h : ℕ) (row : Handle) → finmap.get table h ≡ Some row → h / 64 < length tops
  pub top : (h : ℕ) (row : Handle) → finmap.get table h ≡ Some row → reach row ≤ slice_index tops (h / 64)

-- each handle from this number on and below that one reaches no higher than this
abbrev pub IsTopBetween : Table → ℕ → ℕ → ℕ → Type 0
IsTopBetween table from to top = (h : ℕ) (row : Handle) → from ≤ h → h < to → finmap.get table h ≡ Some row
    → reach row ≤ top

-- each handle of this chunk reaches no higher than this
abbrev pub IsTop : Table → ℕ → ℕ → Type 0
IsTop table chunk top = IsTopBetween table (64 * chunk) (64 * chunk + 64) top

-- the old tops, and more at their end
pub record HasGrown (old new : List ℕ) : Type 0 where
  pub few : length new ≤ 1024
  pub longer : length old ≤ length new
  pub kept : (i : ℕ) → i < length old → slice_index new i ≡ slice_index old i

-- the top of this chunk reaches as high, and no top has become lower
pub record HasRaised (old new : List ℕ) (chunk high : ℕ) : Type 0 where
  pub same_length : length new ≡ length old
  pub here : high ≤ slice_index new chunk
  pub higher : (i : ℕ) → slice_index old i ≤ slice_index new i
