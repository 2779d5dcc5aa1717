-- References that are followed with the bits of one segment lent.
use Rattle.std.specs.Prelude.{◌≡◌, ℕ, ◌+◌, ◌^◌, ◌<◌, ◌⊎◌, true, false, if◌then◌else◌, ◌==◌, List, length, get_or}
use Rattle.std.specs.Prelude.{set, min}
use Rattle.clr_types.specs.Descriptors.{offsets_from}
use Rattle.clr_bgmark.specs.Shades.{BackgroundView, cell_colour, covers, is_outside, is_white, IsBackground, met_all}
use Rattle.clr_bgmark.specs.Shades.{ShadeView, with_marked}

-- the target is null, or lies in the segment and was taken
abbrev pub IsNear : ShadeView → ℕ → Type 0
IsNear s y = (y ≡ 0) ⊎ ((covers s y ≡ true) × (is_outside (cell_colour s y) ≡ false))

-- the bits behind a reference to it: what is white is marked
abbrev pub met_near : ShadeView → ℕ → ShadeView
met_near s y = if y == 0 then s else (if is_white (cell_colour s y) then with_marked y s else s)

-- how many objects it grays
abbrev pub found_near : ShadeView → ℕ → ℕ
found_near s y = if y == 0 then 0 else (if is_white (cell_colour s y) then 1 else 0)

-- a background collection with other bits of segment `near`, and so many more gray objects
abbrev pub lent : BackgroundView → ℕ → ShadeView → ℕ → BackgroundView
lent v near s found = record v { shades = set v.shades near s; gray = min (v.gray + found) 18446744073709551615 }

-- these are the bits of segment `near`
pub record IsLentFrom (ss : List ShadeView) (near : ℕ) (s : ShadeView) : Type 0 where
  pub background : IsBackground ss
  pub within : near < length ss
  pub is : s ≡ get_or ss near s

-- wherever the bits are given back, the segments are lawful
abbrev pub StaysLawful : ShadeView → ShadeView → Type 0
StaysLawful s now = (ss : List ShadeView) (near : ℕ) → IsLentFrom ss near s → IsBackground (set ss near now)

-- and the references of an object's run from number `from` up to number `stop` were met then
abbrev pub HasMetNear : (ℕ → ℕ) → ℕ → ℕ → ℕ → ℕ → ShadeView → ShadeView → ℕ → Type 0
HasMetNear word obj offset from stop s now found =
    (first v : BackgroundView) (near : ℕ) → IsLentFrom v.shades near s → v.gray < 2 ^ 64
    → v ≡ met_all word first obj (offsets_from offset from)
    → lent v near now found ≡ met_all word first obj (offsets_from offset stop)
