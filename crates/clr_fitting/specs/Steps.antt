-- A fitting in two steps: a fit, and a usual compaction of generation 1 over what it leaves.
use Rattle.std.specs.Prelude.{◌≡◌, ℕ, ◌+◌, ◌<◌, ◌≤◌, Bool, true, false, List, ◌++◌, filter, map, not}
use Rattle.clr_types.specs.Ranges.{by_place, Piece}
use Rattle.clr_types.specs.Maps.{map_values}
use Rattle.clr_types.specs.Rising.{IsIn}
use Rattle.clr_types.specs.Segments.{generation, is_small_or_ephemeral, Layout}
use Rattle.clr_types.proofs.Shuffles.{IsShuffled}
use Rattle.clr_model.specs.Machine.{Machine, Object, Value}
use Rattle.clr_model.specs.Lookups.{bytes_where, is_pinned}
use Rattle.clr_model.specs.Sweep.{is_in_part, survivors}
use Rattle.clr_model.specs.Compaction.{Move, moved_by, Plug, plugs_of, survivors_in}
use Rattle.clr_model.specs.Picture.{renamed_row}
use Rattle.clr_model.specs.Slide.{slid_object}
use Rattle.clr_model.specs.Fitting.{Fit, fit_of, fitted_layout, fitting_plugs, is_moved}
use Rattle.clr_model.specs.Fitting.{is_older_item}

-- ---- the first step

-- the plugs that are to find room, in a machine that keeps what the test passes
abbrev pub plugs_to_fit : Machine → (ℕ → Bool) → List Plug
plugs_to_fit m kept = fitting_plugs (plugs_of (survivors_in is_small_or_ephemeral m.layout (survivors m 1 kept)))

-- where the survivors of generation 1 find room, in a machine that keeps what the test passes
abbrev pub fit_in : Machine → (ℕ → Bool) → Fit
fit_in m kept = fit_of m.layout (survivors m 1 kept)

-- the machine where these moves are made and this is left of the older items, each object under the name that it had
abbrev pub fitted_by : Machine → (ℕ → Bool) → Fit → Machine
fitted_by m kept fit = record m {
  objects = map (slid_object fit.moves) m.objects;
  layout = fitted_layout m.layout (survivors m 1 kept) fit;
}

-- and where all moves of the fit are
abbrev pub fitted : Machine → (ℕ → Bool) → Machine
fitted m kept = fitted_by m kept (fit_in m kept)

-- the object finds room
abbrev pub finds_room : Machine → (ℕ → Bool) → Object → Bool
finds_room m kept o = is_moved (fit_in m kept).moves o.place

-- the bytes of the objects that do
abbrev pub fitted_bytes : Machine → (ℕ → Bool) → ℕ
fitted_bytes m kept = bytes_where m (finds_room m kept)

-- An object that finds room: it is a kept one of generation 1, and not pinned. It goes below the first boundary, and so
-- to generation 2.
pub record IsFittedObject (m : Machine) (kept : ℕ → Bool) (o : Object) : Type 0 where
  pub stays : kept o.name ≡ true
  pub free : is_pinned m o.name ≡ false
  pub before : generation m.layout o.place ≡ 1
  pub lower : moved_by (fit_in m kept).moves o.place < m.layout.start1
  pub after : generation (fitted m kept).layout (moved_by (fit_in m kept).moves o.place) ≡ 2

-- A move of a fit: it takes a plug from above the first boundary to below it.
pub record IsFitMove (layout : Layout) (v : Move) : Type 0 where
  pub least : 24 ≤ v.size
  pub from : layout.start1 ≤ v.start
  pub to : v.to + v.size ≤ layout.start1

-- ---- what is seen of a machine

-- the free items that a compaction of generation 1 leaves as they are
abbrev pub free_elsewhere : Layout → List Piece → List Piece
free_elsewhere layout = filter (λ p. not (is_in_part is_small_or_ephemeral layout 1 p))

-- Layouts that a compaction of generation 1 doesn't tell apart: they differ in free items of the part that it goes
-- over, at most.
pub record IsAlike (layout other : Layout) : Type 0 where
  pub segments : other.segments ≡ layout.segments
  pub start1 : other.start1 ≡ layout.start1
  pub start0 : other.start0 ≡ layout.start0
  pub rests : other.rests ≡ layout.rests
  pub top : other.top ≡ layout.top
  pub free : free_elsewhere other other.free ≡ free_elsewhere other layout.free

-- The machine `seen` is m with other names for its objects, such as their places, as far as a compaction of generation
-- 1 goes: `shown` tells each object's other self. What m keeps by one test, it keeps by the other. It may have more
-- objects, none of which it keeps.
pub record IsSeenAs (m : Machine) (kept : ℕ → Bool) (seen : Machine) (left : ℕ → Bool) : Type 0 where
  pub shown : Object → Object
  pub more : List Object
  pub types : seen.types ≡ m.types
  pub layout : IsAlike m.layout seen.layout
  pub objects : IsShuffled (map shown m.objects ++ more) seen.objects
  pub place : (o : Object) → (shown o).place ≡ o.place
  pub type : (o : Object) → (shown o).type ≡ o.type
  pub len : (o : Object) → (shown o).len ≡ o.len
  pub pinned : (o : Object) → IsIn o m.objects → is_pinned seen (shown o).name ≡ is_pinned m o.name
  pub tested : (o : Object) → IsIn o m.objects → left (shown o).name ≡ kept o.name
  pub lost : (o : Object) → IsIn o more → left o.name ≡ false

-- ---- copies

-- the layout after a fit that copied what found room, and left it where it was, too
abbrev pub copied_layout : Machine → (ℕ → Bool) → Layout
copied_layout m kept = record m.layout {
  free = by_place (filter (λ i. not (is_older_item m.layout i)) m.layout.free ++ (fit_in m kept).left);
}

-- and the machine
abbrev pub copied : Machine → (ℕ → Bool) → Machine
copied m kept = record m {
  objects = map (slid_object (fit_in m kept).moves) m.objects ++ filter (finds_room m kept) m.objects;
  layout = copied_layout m kept;
}

-- ---- names that are places

-- an object named by the place where it goes, with its slots changed
abbrev pub gone_object : (ℕ → ℕ) → (List Value → List Value) → Object → Object
gone_object to change o = record o { name = to o.place; place = to o.place; slots = change o.slots }

-- What is seen of a fit in a machine whose objects are named by their places, as far as a compaction goes: each object
-- has gone where the fit takes it, and so has what handles name. More objects may be there, such as those that were
-- copied.
pub record IsFittedSeen (m : Machine) (kept : ℕ → Bool) (seen : Machine) : Type 0 where
  pub change : List Value → List Value
  pub more : List Object
  pub types : seen.types ≡ m.types
  pub layout : IsAlike (fitted m kept).layout seen.layout
  pub objects : IsShuffled (map (gone_object (moved_by (fit_in m kept).moves) change) m.objects ++ more) seen.objects
  pub handles : seen.handles ≡ map_values (renamed_row (moved_by (fit_in m kept).moves)) m.handles
