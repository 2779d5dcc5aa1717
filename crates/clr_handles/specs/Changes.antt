-- How each handle of a table may change.
use Rattle.std.specs.Prelude.{◌≡◌, ℕ, ◌<◌, ◌≤◌, ◌⊎◌, Option, None, MatchOption, IsSomeAnd}
use Rattle.std.specs.FinMap as finmap
use Rattle.clr_types.specs.declared.handle.Handle.{Handle}
use Rattle.clr_handles.specs.Tables.{Table}

-- nothing stays nothing, and a handle becomes one that the relation allows
abbrev pub Becomes : (Handle → Handle → Type 0) → Option Handle → Option Handle → Type 0
Becomes R old new = MatchOption old (new ≡ None) (λ row. IsSomeAnd new (R row))

-- the same numbers are in use, and the handle of each has become one that the relation allows
abbrev pub EachBecomes : (Handle → Handle → Type 0) → Table → Table → Type 0
EachBecomes R old new = (h : ℕ) → Becomes R (finmap.get old h) (finmap.get new h)

-- so it is from this number on and below that one, and the others are as before
pub record BecomesWithin (R : Handle → Handle → Type 0) (old new : Table) (from to : ℕ) : Type 0 where
  pub inside : (h : ℕ) → from ≤ h → h < to → Becomes R (finmap.get old h) (finmap.get new h)
  pub outside : (h : ℕ) → (h < from) ⊎ (to ≤ h) → finmap.get new h ≡ finmap.get old h

-- another handle at this number, or none as before; the other numbers keep theirs
pub record BecomesAt (R : Handle → Handle → Type 0) (old new : Table) (at : ℕ) : Type 0 where
  pub here : Becomes R (finmap.get old at) (finmap.get new at)
  pub others : (h : ℕ) → (h ≡ at → ⊥) → finmap.get new h ≡ finmap.get old h
