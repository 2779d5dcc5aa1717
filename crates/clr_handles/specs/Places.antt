-- What is told of the places that handles name.
use Rattle.std.specs.Prelude.{◌≡◌, ℕ, ◌+◌, ◌<◌, ◌≤◌, ◌==◌, ◌||◌, ◌&&◌, nat_lt, nat_le, Bool, true, false, MatchBool}
use Rattle.std.specs.Prelude.{Option, Some, if◌then◌else◌}
use Rattle.std.specs.FinMap as finmap
use Rattle.clr_types.specs.Kinds.{is_pinned_kind}
use Rattle.clr_types.specs.declared.handle.Kind.{Kind}
use Rattle.clr_types.specs.declared.handle.Kind.TheVariants.{Dependent}
use Rattle.clr_types.specs.declared.handle.Handle.{Handle}
use Rattle.clr_handles.specs.Tables.{Table}

-- Whether a place is kept: null isn't, what lies below `low` is, and of each other place an answer tells.
abbrev pub IsKept : (ℕ → Bool → Type 0) → ℕ → ℕ → Bool → Type 0
IsKept answers low place kept =
    MatchBool (place == 0) (kept ≡ false) (MatchBool (nat_lt place low) (kept ≡ true) (answers place kept))

-- Where a place has moved: null and what lies below `low` stay, and of each other place an answer tells.
abbrev pub IsMoved : (ℕ → ℕ → Type 0) → ℕ → ℕ → ℕ → Type 0
IsMoved answers low place moved = MatchBool (place == 0 || nat_lt place low) (moved ≡ place) (answers place moved)

-- a dependent handle loses both parts, any other its target
abbrev pub nulled_of : Kind → Handle → Handle
nulled_of Dependent row = record row { target = 0; second = 0 }
nulled_of _ row = record row { target = 0 }

abbrev pub nulled : Handle → Handle
nulled row = nulled_of row.kind row

-- a handle of this kind stays where its target is kept, else it becomes null; any other stays
pub record IsCleared (kind : Kind) (answers : ℕ → Bool → Type 0) (low : ℕ) (old new : Handle) : Type 0 where
  pub asked : old.kind ≡ kind → (kept : Bool) × IsKept answers low old.target kept
      × (new ≡ (if kept then old else nulled old))
  pub others : (old.kind ≡ kind → ⊥) → new ≡ old

-- both places of a handle follow what they name
pub record IsRelocated (answers : ℕ → ℕ → Type 0) (low : ℕ) (old new : Handle) : Type 0 where
  pub kind : new.kind ≡ old.kind
  pub target : IsMoved answers low old.target new.target
  pub second : IsMoved answers low old.second new.second

-- the target of a handle stays, and its second follows what it names
pub record IsSpared (answers : ℕ → ℕ → Type 0) (low : ℕ) (old new : Handle) : Type 0 where
  pub kind : new.kind ≡ old.kind
  pub target : new.target ≡ old.target
  pub second : IsMoved answers low old.second new.second

-- Both places of a handle follow what they name; but where those of pinned handles are spared, their targets stay.
abbrev pub IsFollowed : Bool → (ℕ → ℕ → Type 0) → ℕ → Handle → Handle → Type 0
IsFollowed spares answers low old new =
    MatchBool (spares && is_pinned_kind old.kind) (IsSpared answers low old new) (IsRelocated answers low old new)

-- this may be asked of the target of a handle of this kind, where it isn't null and doesn't lie below `low`
abbrev pub MayAskOf : Kind → ℕ → Option Handle → (ℕ → Type 0) → Type 0
MayAskOf kind low found P = (row : Handle) → found ≡ Some row → row.kind ≡ kind → 0 < row.target → low ≤ row.target
    → P row.target

-- and so of each handle of the table
abbrev pub MayAsk : Kind → ℕ → Table → (ℕ → Type 0) → Type 0
MayAsk kind low table P = (h : ℕ) → MayAskOf kind low (finmap.get table h) P

-- this may be asked of the places that a handle names, where they aren't null and don't lie below `low`
abbrev pub MayFollow : ℕ → Option Handle → (ℕ → Type 0) → Type 0
MayFollow low found P =
    (row : Handle) → found ≡ Some row → (0 < row.target → low ≤ row.target → P row.target)
    × (0 < row.second → low ≤ row.second → P row.second)

-- and so of each handle of the table
abbrev pub MayFollowAll : ℕ → Table → (ℕ → Type 0) → Type 0
MayFollowAll low table P = (h : ℕ) → MayFollow low (finmap.get table h) P

-- whether a handle names a place from `low` on
abbrev pub names_from : ℕ → Handle → Bool
names_from low row = nat_le low row.target || nat_le low row.second

-- no handle from this number on and below that one names a place from `low` on
abbrev pub NoneNames : Table → ℕ → ℕ → ℕ → Type 0
NoneNames table low from to = (h : ℕ) (row : Handle) → from ≤ h → h < to → finmap.get table h ≡ Some row
    → names_from low row ≡ false

-- the handle of the least number from this one on that names a place from `low` on
pub record IsNext (table : Table) (low from h : ℕ) (row : Handle) : Type 0 where
  pub in_use : finmap.get table h ≡ Some row
  pub above : from ≤ h
  pub names : names_from low row ≡ true
  pub none_before : NoneNames table low from h

-- the handle of the greatest number below this one that names a place from `low` on
pub record IsPrevious (table : Table) (low before h : ℕ) (row : Handle) : Type 0 where
  pub in_use : finmap.get table h ≡ Some row
  pub below : h < before
  pub names : names_from low row ≡ true
  pub none_between : NoneNames table low (h + 1) before
