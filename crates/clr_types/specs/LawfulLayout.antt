-- What holds of the segments, the boundaries and the pieces of every layout.
use Rattle.std.specs.Prelude.{◌≡◌, ℕ, ◌%◌, ◌<◌, ◌≤◌, List, [], ◌∷◌, length, ◌⊎◌, true}
use Rattle.std.specs.List.{AllByRecursion}
use Rattle.clr_types.specs.Rising.{IsRisingBy}
use Rattle.clr_types.specs.Ranges.{Piece, piece_end, Tiles}
use Rattle.clr_types.specs.Segments.{Layout, first_place, is_small_or_ephemeral, reserved_end, segments_of, ephemeral}
use Rattle.clr_types.specs.Segments.{pieces_in}
use Rattle.clr_types.specs.declared.segment.SegInfo.{SegInfo}
use Rattle.clr_types.specs.declared.segment.SegKind.TheVariants.{Small, Ephemeral, Large}

-- each segment ends before the next begins
abbrev pub AreDisjoint : List SegInfo → Type 0
AreDisjoint [] = Unit {0}
AreDisjoint (s ∷ ss) = AllByRecursion (λ r. reserved_end s ≤ r.base) ss × AreDisjoint ss

-- bases begin at 0x10000000, and bases and sizes are whole pages
pub record IsLawfulSegment (s : SegInfo) : Type 0 where
  pub base : s.base % 4096 ≡ 0
  pub lowest : 0x10000000 ≤ s.base
  pub reserved : s.reserved % 4096 ≡ 0
  pub least : 262144 ≤ s.reserved
  pub low : first_place s ≤ s.end
  pub high : s.end ≤ reserved_end s
  pub aligned : s.end % 8 ≡ 0

-- A small or ephemeral segment reserves at most 64 MiB. Plans and their tables of steps need it, and every segment that
-- a machine acquires keeps it. A heap alone may have longer ones, up to its limit.
abbrev pub IsBoundedSegment : SegInfo → Type 0
IsBoundedSegment s = is_small_or_ephemeral s.kind ≡ true → s.reserved ≤ 67108864

abbrev pub AreBounded : List SegInfo → Type 0
AreBounded ss = AllByRecursion IsBoundedSegment ss

-- a piece doesn't begin below the boundary and end above it
abbrev pub DoesNotCross : ℕ → Piece → Type 0
DoesNotCross boundary p = (boundary ≤ p.place) ⊎ (piece_end p ≤ boundary)

pub record IsLawfulLayout (layout : Layout) : Type 0 where
  pub segments : AllByRecursion IsLawfulSegment layout.segments
  pub bounded : AreBounded layout.segments
  pub disjoint : AreDisjoint layout.segments
  pub below_top : AllByRecursion (λ (s : SegInfo). reserved_end s ≤ layout.top) layout.segments
  pub top_aligned : layout.top % 4096 ≡ 0
  pub one_ephemeral : length (segments_of Ephemeral layout) ≡ 1
  pub ephemeral_last : AllByRecursion (λ (s : SegInfo). s.base ≤ (ephemeral layout).base) (segments_of Small layout)
  pub some_large : 0 < length (segments_of Large layout)
  pub start1_low : first_place (ephemeral layout) ≤ layout.start1
  pub start1_high : layout.start1 ≤ layout.start0
  pub start0_high : layout.start0 ≤ (ephemeral layout).end
  pub aligned : (layout.start1 % 8 ≡ 0) × (layout.start0 % 8 ≡ 0)
  pub free_rise : IsRisingBy (λ (p : Piece). p.place) layout.free
  pub threads : length layout.rests ≡ 16

-- the pieces of a segment fill it from its first place to its end
abbrev pub IsTiled : List Piece → SegInfo → Type 0
IsTiled ps s = Tiles (first_place s) s.end (pieces_in s ps)
