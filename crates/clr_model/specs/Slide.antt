-- The large heap slid: each plug of large objects goes to the lowest candidate at or above the pointer at which it
-- fits.
-- A slide begins where a full collection has swept, so that all objects of the large heap stay.
use Rattle.std.specs.Prelude.{◌≡◌, ℕ, List, true, map}
use Rattle.std.specs.List.{flat_map}
use Rattle.clr_types.specs.Ranges.{Piece, gaps, end_of_last}
use Rattle.clr_types.specs.declared.segment.SegInfo.{SegInfo}
use Rattle.clr_types.specs.declared.segment.SegKind.TheVariants.{Large}
use Rattle.clr_types.specs.Segments.{Layout, first_place, pieces_in, same_kind, segment_or_empty}
use Rattle.clr_model.specs.Machine.{Machine, Object}
use Rattle.clr_model.specs.Sweep.{Survivor, survivors, taking_part, free_after, segments_after}
use Rattle.clr_model.specs.Compaction.{Move, Plug, Placed, moved_by, moved_pieces, plugs_of, survivors_in}

-- ---- the layout

abbrev pub large_segments : Layout → List SegInfo
large_segments layout = taking_part (same_kind Large) 2 layout

-- the maximal runs of what stays in them, of one pinned state each
abbrev pub large_plugs : Layout → List Survivor → List Plug
large_plugs layout kept = plugs_of (survivors_in (same_kind Large) layout kept)

-- where the pointer begins: the first place of the lowest of them
abbrev pub lowest_place : Layout → ℕ
lowest_place layout = first_place (segment_or_empty (large_segments layout))

-- a large segment ends behind its last object, or at its first place where it has none
abbrev pub slid_end : List Move → SegInfo → ℕ
slid_end moves s = end_of_last (first_place s) (pieces_in s (moved_pieces moves))

abbrev pub slid_free : List Move → SegInfo → List Piece
slid_free moves s = gaps (first_place s) (slid_end moves s) (pieces_in s (moved_pieces moves))

-- the layout when these moves are made
abbrev pub slid_layout : Layout → List Move → Layout
slid_layout layout moves = record layout {
  segments = segments_after (same_kind Large) 2 (slid_end moves) layout.segments;
  free = free_after (same_kind Large) layout 2 (flat_map (slid_free moves) (large_segments layout));
}

-- the large heap slid: its plugs are placed by rising place, and what they leave below the new ends is free
pub record IsLargeSlid (layout : Layout) (kept : List Survivor) (moves : List Move) (new : Layout) : Type 0 where
  pub after : ℕ
  pub placed : Placed (large_segments layout) (large_plugs layout kept) (lowest_place layout) (large_plugs layout kept)
      moves after
  pub laid : new ≡ slid_layout layout moves

-- ---- the machine

-- every object, as far as its layout goes
abbrev pub all_survivors : Machine → List Survivor
all_survivors m = survivors m 2 (λ name. true)

-- an object where these moves take it
abbrev pub slid_object : List Move → Object → Object
slid_object moves o = record o { place = moved_by moves o.place }

-- the machine with its large heap slid by these moves
pub record SlidesLarge (m : Machine) (moves : List Move) (new : Machine) : Type 0 where
  pub layout : Layout
  pub slid : IsLargeSlid m.layout (all_survivors m) moves layout
  pub state : new ≡ record m { objects = map (slid_object moves) m.objects; layout = layout }
