-- What a change of each handle is where the answers are those of a function.
use Rattle.std.specs.Prelude.{◌≡◌, ℕ, ◌<◌, ◌==◌, Bool, true, ◌&&◌, not, if◌then◌else◌}
use Rattle.clr_types.specs.declared.handle.Kind.{Kind}
use Rattle.clr_types.specs.declared.handle.Handle.{Handle}
use Rattle.clr_types.specs.Maps.{map_values}
use Rattle.clr_types.specs.HandleCode.{number_of_kind}
use Rattle.clr_handles.specs.Tables.{Table}
use Rattle.clr_handles.specs.Places.{IsCleared, IsRelocated, nulled}
use Rattle.clr_handles.specs.Changes.{EachBecomes}

abbrev pub is_kind : Kind → Kind → Bool
is_kind a b = number_of_kind a == number_of_kind b

-- a handle of this kind becomes null where its target is null or the test fails
abbrev pub cleared : Kind → (ℕ → Bool) → Handle → Handle
cleared kind test row =
    if is_kind row.kind kind && not (not (row.target == 0) && test row.target) then nulled row else row

abbrev pub relocated : (ℕ → ℕ) → Handle → Handle
relocated to row = record row { target = to row.target; second = to row.second }

-- Where a test tells the answers, and what lies below `low` passes it, a clearing is that of the test at each handle.
abbrev pub ClearingLaw : Type 0
ClearingLaw =
    (kind : Kind) (low : ℕ) (test : ℕ → Bool) (old new : Table)
    → EachBecomes (IsCleared kind (λ place kept. kept ≡ test place) low) old new
    → ((place : ℕ) → 0 < place → place < low → test place ≡ true) → new ≡ map_values (cleared kind test) old

-- Where a function tells the answers, and what lies below `low` stays as null does, a relocation is that of the
-- function.
abbrev pub RelocationLaw : Type 0
RelocationLaw =
    (low : ℕ) (to : ℕ → ℕ) (old new : Table) → EachBecomes (IsRelocated (λ place moved. moved ≡ to place) low) old new
    → ((place : ℕ) → place < low → to place ≡ place) → to 0 ≡ 0 → new ≡ map_values (relocated to) old
