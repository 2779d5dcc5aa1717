-- What the last pause finds by bits alone.
use Rattle.std.specs.Prelude.{◌≡◌, ℕ, ◌%◌, ◌⊎◌, true, List, [], map, Some}
use Rattle.std.specs.FinMap as finmap
use Rattle.std.specs.Ordering.{nat_cmp}
use Rattle.clr_types.specs.Rising.{IsIn}
use Rattle.clr_types.specs.Types.{TypeRow}
use Rattle.clr_types.specs.declared.handle.Handle.{Handle}
use Rattle.clr_heap.specs.View.{HeapView}
use Rattle.clr_model.specs.Reach.{Reach, SlotNames}
use Rattle.clr_view.specs.View.{objects_in}
use Rattle.clr_bgmark.specs.LastPause.{IsSought, LogHolds}
use Rattle.clr_bgmark.specs.Pauses.{IsFound}
use Rattle.clr_bgmark.specs.Scanning.{AreObjects, HaveWholeObjects, IsCounted}
use Rattle.clr_bgmark.specs.Shades.{BackgroundView, is_marked, is_scanned, is_taken, rest_of, ShadeView}
use Rattle.clr_bgmark.specs.declared.shade.Search.TheVariants.{Logged}

-- the bits of a segment, but for those of colours and the log
abbrev pub without_colours : ShadeView → ShadeView
without_colours s = record s { marked = []; scanned = []; logged = [] }

-- null, or found
abbrev pub IsNullOrFound : List ShadeView → ℕ → Type 0
IsNullOrFound ss x = (x ≡ 0) ⊎ IsFound ss x

-- what any handle names is found
abbrev pub HaveFoundTargets : finmap.FinMap nat_cmp Handle → List ShadeView → Type 0
HaveFoundTargets handles ss =
    (h : ℕ) (row : Handle) → finmap.get handles h ≡ Some row → IsNullOrFound ss row.target × IsNullOrFound ss row.second

-- ---- one part after the other

-- what holds as long as the objects that were taken stand where they stood
pub record IsAtWork (rows : List TypeRow) (h : HeapView) (v : BackgroundView) : Type 0 where
  pub objects : AreObjects rows h v.shades
  pub whole : HaveWholeObjects rows h v.shades
  pub counted : IsCounted (objects_in rows h) v
  pub log : LogHolds rows (objects_in rows h) v.shades

-- more is found: what slots reach from a start and from what was found
pub record HasFoundMore (rows : List TypeRow) (h : HeapView) (Start : ℕ → Type 0) (old new : BackgroundView)
    : Type 0 where
  pub rest : rest_of new ≡ rest_of old
  pub taken : map without_colours new.shades ≡ map without_colours old.shades
  pub kept : (x : ℕ) → IsFound old.shades x → IsFound new.shades x
  pub reached : (x : ℕ) → IsFound new.shades x
      → Reach (SlotNames (objects_in rows h)) (λ y. Start y ⊎ IsFound old.shades y) x

-- what the slots of an object name is found, of what was taken
abbrev pub HasFollowed : List TypeRow → HeapView → List ShadeView → ℕ → Type 0
HasFollowed rows h ss x = (y : ℕ) → SlotNames (objects_in rows h) x y → is_taken ss y ≡ true → IsFound ss y

-- so it is with each black object
abbrev pub HasFollowedBlack : List TypeRow → HeapView → List ShadeView → Type 0
HasFollowedBlack rows h ss = (x : ℕ) → IsFound ss x → is_scanned ss x ≡ true → HasFollowed rows h ss x

-- A marking by bits leads no further: of what was taken all is found that it starts at, and that slots of found objects
-- name.
pub record LeadsNoFurther (rows : List TypeRow) (h : HeapView) (Start : ℕ → Type 0) (ss : List ShadeView)
    : Type 0 where
  pub start : (x : ℕ) → Start x → is_taken ss x ≡ true → IsFound ss x
  pub slots : (x : ℕ) → IsFound ss x → HasFollowed rows h ss x

-- ---- whether all is found

-- what is black is found
abbrev pub IsBlackFound : List ShadeView → Type 0
IsBlackFound ss = (a : ℕ) → a % 8 ≡ 0 → is_scanned ss a ≡ true → is_marked ss a ≡ true

-- all of these are null or found
abbrev pub AreNullOrFound : List ShadeView → List ℕ → Type 0
AreNullOrFound ss xs = (x : ℕ) → IsIn x xs → IsNullOrFound ss x

-- what the slots of an object name is found
abbrev pub NamesFound : List TypeRow → HeapView → List ShadeView → ℕ → Type 0
NamesFound rows h ss x = (y : ℕ) → SlotNames (objects_in rows h) x y → IsFound ss y

-- so it is with each found object over which the search for logged cards doesn't pass
abbrev pub IsDueFound : List TypeRow → HeapView → List ShadeView → Type 0
IsDueFound rows h ss = (x : ℕ) → IsFound ss x → IsSought Logged ss x → NamesFound rows h ss x

-- what these lists and all handles name is found, and what found objects name that are to be looked at
pub record IsAllFound (rows : List TypeRow) (h : HeapView) (handles : finmap.FinMap nat_cmp Handle)
    (locals ready entries : List ℕ) (ss : List ShadeView) : Type 0 where
  pub local : AreNullOrFound ss locals
  pub queued : AreNullOrFound ss ready
  pub entry : AreNullOrFound ss entries
  pub targets : HaveFoundTargets handles ss
  pub due : IsDueFound rows h ss
