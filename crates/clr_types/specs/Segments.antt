-- Segments, the layout of a heap, and what a place in it tells.
use Rattle.std.specs.Prelude.{ℕ, ◌+◌, ◌-◌, ◌*◌, replicate, List, [], ◌∷◌, Option, Some, None, if◌then◌else◌, nat_lt}
use Rattle.std.specs.Prelude.{nat_le, Bool, true, false, ◌&&◌, slice_get, find, sum_by, filter}
use Rattle.clr_types.specs.Rising.{changed_by}
use Rattle.clr_types.specs.Ranges.{Piece}
use Rattle.clr_types.specs.declared.segment.SegInfo.{SegInfo}
use Rattle.clr_types.specs.declared.segment.SegKind.{SegKind}
use Rattle.clr_types.specs.declared.segment.SegKind.TheVariants.{Small, Ephemeral, Large, Pinned}

-- The segments by rising base, the boundaries of the generations in the ephemeral one, the free items by rising place,
-- what is left of each thread's context, and the highest end of a reservation that ever was.
pub record Layout : Type 0 where
  pub segments : List SegInfo
  pub start1 : ℕ
  pub start0 : ℕ
  pub free : List Piece
  pub rests : List (Option Piece)
  pub top : ℕ

-- ---- one segment

-- the place of an object that stands at the segment's front
abbrev pub first_place : SegInfo → ℕ
first_place s = s.base + 0x1000

abbrev pub reserved_end : SegInfo → ℕ
reserved_end s = s.base + s.reserved

abbrev pub same_kind : SegKind → SegKind → Bool
same_kind Small Small = true
same_kind Ephemeral Ephemeral = true
same_kind Large Large = true
same_kind Pinned Pinned = true
same_kind _ _ = false

abbrev pub is_small_or_ephemeral : SegKind → Bool
is_small_or_ephemeral Small = true
is_small_or_ephemeral Ephemeral = true
is_small_or_ephemeral Large = false
is_small_or_ephemeral Pinned = false

-- what isn't of the small heap
abbrev pub is_large_or_pinned : SegKind → Bool
is_large_or_pinned Small = false
is_large_or_pinned Ephemeral = false
is_large_or_pinned Large = true
is_large_or_pinned Pinned = true

-- a place stands in the segment
abbrev pub stands_in : SegInfo → ℕ → Bool
stands_in s place = nat_le (first_place s) place && nat_lt place (reserved_end s)

-- a size fits in the tail of a segment where it ends within the reservation
abbrev pub fits_in_tail : SegInfo → ℕ → Bool
fits_in_tail s size = nat_le (s.end + size) (reserved_end s)

abbrev pub ended_at : ℕ → SegInfo → SegInfo
ended_at end s = record s { end = end }

abbrev pub empty_segment : SegInfo
empty_segment = record { base = 0; reserved = 0; kind = Ephemeral; end = 0 }

-- a segment with nothing in it
abbrev pub opening_segment : ℕ → SegKind → ℕ → SegInfo
opening_segment base kind size = record { base = base; reserved = size; kind = kind; end = base + 0x1000 }

abbrev pub sealed_kind : SegKind → SegKind
sealed_kind Small = Small
sealed_kind Ephemeral = Small
sealed_kind Large = Large
sealed_kind Pinned = Pinned

-- an ephemeral segment becomes small
abbrev pub sealed_segment : SegInfo → SegInfo
sealed_segment s = record s { kind = sealed_kind s.kind }

abbrev pub segment_or_empty : List SegInfo → SegInfo
segment_or_empty [] = empty_segment
segment_or_empty (s ∷ ss) = s

-- ---- all segments

abbrev pub segments_of : SegKind → Layout → List SegInfo
segments_of kind layout = filter (λ s. same_kind kind s.kind) layout.segments

abbrev pub segment_of : Layout → ℕ → Option SegInfo
segment_of layout place = find (λ s. stands_in s place) layout.segments

-- the one ephemeral segment
abbrev pub ephemeral : Layout → SegInfo
ephemeral layout = segment_or_empty (segments_of Ephemeral layout)

abbrev pub reserved_sum : Layout → ℕ
reserved_sum layout = sum_by (λ s. s.reserved) layout.segments

-- A place of the ephemeral segment has generation 2 below the first boundary, 1 below the second and 0 from there on.
-- Every other place has generation 2.
abbrev pub generation : Layout → ℕ → ℕ
generation layout place =
    if stands_in (ephemeral layout) place then
    (if nat_lt place layout.start1 then 2 else (if nat_lt place layout.start0 then 1 else 0)) else 2

-- the segment with this base ends here
abbrev pub with_end : Layout → ℕ → ℕ → Layout
with_end layout base end = record layout { segments = changed_by (λ s. s.base) base (ended_at end) layout.segments }

-- ---- the start

-- an empty ephemeral segment, and an empty large one after it
abbrev pub opening_layout : ℕ → Layout
opening_layout size = record {
  segments = opening_segment 0x10000000 Ephemeral size ∷ opening_segment (0x10000000 + size) Large size ∷ [];
  start1 = 0x10001000;
  start0 = 0x10001000;
  free = [];
  rests = replicate 16 None;
  top = 0x10000000 + 2 * size;
}

-- ---- contexts

abbrev pub flat_option : {X : Type 0} → Option (Option X) → Option X
flat_option None = None
flat_option (Some o) = o

-- what is left of the thread's context; threads are numbered from 1
abbrev pub rest_of : Layout → ℕ → Option Piece
rest_of layout t = flat_option (slice_get layout.rests (t - 1))

-- what is left of all contexts, by thread
abbrev pub rest_pieces : List (Option Piece) → List Piece
rest_pieces [] = []
rest_pieces (None ∷ rests) = rest_pieces rests
rest_pieces (Some p ∷ rests) = p ∷ rest_pieces rests

-- ---- pieces

-- the pieces that stand in the segment
abbrev pub pieces_in : SegInfo → List Piece → List Piece
pieces_in s = filter (λ p. stands_in s p.place)
