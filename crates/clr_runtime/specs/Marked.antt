-- What holds while a background collection runs: what it took as it is seen, and what its bits and its log tell.
use Rattle.std.specs.Prelude.{◌≡◌, ℕ, zero, suc, ◌+◌, ◌*◌, ◌%◌, ◌^◌, ◌<◌, Bool, true, if◌then◌else◌, List, [], ◌∷◌}
use Rattle.std.specs.Prelude.{◌++◌, length, None, Option, Some}
use Rattle.clr_types.specs.Descriptors.{reference_offsets}
use Rattle.clr_types.specs.Rising.{IsIn}
use Rattle.clr_types.specs.Types.{Form, form_at, size_of}
use Rattle.clr_model.specs.Background.{taken}
use Rattle.clr_model.specs.Machine.{Machine, Marking, Object}
use Rattle.clr_background.specs.Log.{LogLaw}
use Rattle.clr_bgmark.specs.Scanning.{is_gray_place, is_white_place}
use Rattle.clr_bgmark.specs.Shades.{BackgroundView, is_covered, is_logged, is_marked, is_scanned, is_taken, PartView}
use Rattle.clr_bgmark.specs.Shades.{ShadeView}
use Rattle.clr_bgmark.specs.Tiles.{AreParts, IsEdgeBy}

-- ---- what was taken, read off the bits alone

-- those of the first n multiples of 8 that pass a test, by rising number
unfoldable pub places_below : (ℕ → Bool) → ℕ → List ℕ
places_below test zero = []
places_below test (suc n) = places_below test n ++ (if test (8 * n) then 8 * n ∷ [] else [])

-- the places of each colour, by rising place: all lie below 2 ^ 63
unfoldable pub marking_by : List ShadeView → Marking
marking_by ss = record {
  white = places_below (is_white_place ss) (2 ^ 60);
  gray = places_below (is_gray_place ss) (2 ^ 60);
  black = places_below (is_scanned ss) (2 ^ 60);
}

-- what a background collection took, where one runs
abbrev pub marking_of : BackgroundView → Option Marking
marking_of v = if v.running then Some (marking_by v.shades) else None

-- ---- while one runs

-- only places below 2 ^ 63 have bits, and what was scanned is marked
pub record AreColours (ss : List ShadeView) : Type 0 where
  pub taken : (a : ℕ) → a % 8 ≡ 0 → is_taken ss a ≡ true → a < 2 ^ 63
  pub marked : (a : ℕ) → a % 8 ≡ 0 → is_marked ss a ≡ true → a < 2 ^ 63
  pub scanned : (a : ℕ) → a % 8 ≡ 0 → is_scanned ss a ≡ true → is_marked ss a ≡ true

-- All references of an object of this form and length at a place lie in what the segments had in use at the first
-- pause, and where it ends another thing began then, or the old part of its segment ended.
pub record StandsWhole (ss : List ShadeView) (ps : List PartView) (place : ℕ) (form : Form) (len : ℕ) : Type 0 where
  pub slots : (offset : ℕ) → IsIn offset (reference_offsets form len) → is_covered ss (place + offset) ≡ true
  pub edge : IsEdgeBy ss ps place (place + size_of form len)

-- so stands all that was taken
abbrev pub StandWhole : Machine → Marking → List ShadeView → List PartView → Type 0
StandWhole m marking ss ps =
    (o : Object) → IsIn o m.objects → IsIn o.name (taken marking)
    → StandsWhole ss ps o.place (form_at m.types o.type) o.len

-- What holds of the machine that is seen and of the bits while a background collection runs. The law of the log: each
-- reference in a slot of a black object is null, or names a gray or black object, or is logged, or is the store that a
-- thread has begun.
pub record IsMarkedSoFar (m : Machine) (v : BackgroundView) : Type 0 where
  pub colours : AreColours v.shades
  pub counted : v.gray ≡ length (marking_by v.shades).gray
  pub whole : StandWhole m (marking_by v.shades) v.shades v.parts
  pub parts : AreParts v.shades v.parts
  pub fronts : length v.fronts ≡ length v.shades
  pub log : LogLaw m (marking_by v.shades) (is_logged v.shades)
