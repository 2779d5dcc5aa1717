-- What a compaction makes of the parts of a machine's segments, whichever parts it goes over.
use Rattle.std.proofs.Common.{◌≡◌, ℕ, ◌<◌, ◌≤◌, Bool, true, not, List, ◌++◌, length, map, filter, if◌then◌else◌}
use Rattle.std.specs.List.{flat_map}
use Rattle.clr_types.specs.Rising.{IsIn}
use Rattle.clr_types.specs.Ranges.{by_place, end_of_last, Piece, piece_end, Tiles}
use Rattle.clr_types.specs.LawfulLayout.{DoesNotCross, IsLawfulLayout}
use Rattle.clr_types.specs.Segments.{first_place, generation, Layout, pieces_in, reserved_end, stands_in}
use Rattle.clr_types.specs.Types.{TypeRow}
use Rattle.clr_types.specs.declared.segment.SegInfo.{SegInfo}
use Rattle.clr_heap.specs.View.{frame, HeapView, segment_at}
use Rattle.clr_model.specs.Compaction.{Move, moved_pieces, Plug}
use Rattle.clr_model.specs.Lookups.{pieces}
use Rattle.clr_model.specs.Machine.{Machine}
use Rattle.clr_model.specs.Sweep.{Survivor}
use Rattle.clr_model.proofs.Landings.{AreLandings}
use Rattle.clr_view.specs.View.{free_in}
use Rattle.clr_sweep.proofs.SurvivorsSwept.{seen}
use Rattle.clr_moves.specs.Moves.{age_of, AreMoves, IsInPart, move_at, start_of, takes}
use Rattle.clr_moves.specs.Objects.{is_in_parts}
use Rattle.clr_moves.specs.declared.condemned.Condemned.{Condemned}

-- The plugs of what is kept in the parts land in the parts by these moves. Each part is tiled from its start to its new
-- end by them and by new free ranges, each of which lies right before a plug. The layout `after` has these ends and
-- these free ranges, and outside of the parts it is as before.
pub record FillsParts (rows : List TypeRow) (old : HeapView) (base : Machine) (g : Condemned) (keeps : ℕ → Bool)
    (moves : List Move) (after : Layout) : Type 0 where
  -- the segments that have a part
  pub segments : List SegInfo
  pub number : (s : SegInfo) → IsIn s segments
      → (t : ℕ) × (t < length old.segments) × (s ≡ segment_at old t) × (takes g (segment_at old t) ≡ true)
  pub among : (t : ℕ) → t < length old.segments → takes g (segment_at old t) ≡ true → IsIn (segment_at old t) segments
  -- where a part started
  pub uncrossed : (s : SegInfo) → IsIn s segments → (p : Piece) → IsIn p (pieces (seen rows old base))
      → stands_in s p.place ≡ true → DoesNotCross (start_of (frame old) g s) p
  pub start_end : (s : SegInfo) → IsIn s segments → start_of (frame old) g s ≤ s.end
  pub age : (s : SegInfo) → IsIn s segments → (place : ℕ) → start_of (frame old) g s ≤ place → first_place s ≤ place
      → place < reserved_end s → generation (frame old) place ≤ age_of g
  -- what is kept, and where it goes
  pub survive : List Survivor
  pub plugs : List Plug
  pub landings : AreLandings (seen rows old base) keeps segments (start_of (frame old) g) survive plugs moves
  pub are : AreMoves old g moves
  pub from : (k : ℕ) → k < length moves → (t : ℕ) × IsInPart old g t (move_at moves k).start
  -- what fills a part
  pub end : SegInfo → ℕ
  pub free : SegInfo → List Piece
  pub tiles : (s : SegInfo) → IsIn s segments → Tiles (start_of (frame old) g s) (end s)
      (by_place (pieces_in s (moved_pieces moves) ++ free s))
  pub bounds : (s : SegInfo) → IsIn s segments → (start_of (frame old) g s ≤ end s) × (end s ≤ reserved_end s)
  pub end_is : (s : SegInfo) → IsIn s segments
      → end s ≡ end_of_last (start_of (frame old) g s) (pieces_in s (moved_pieces moves))
  pub before : (s : SegInfo) → IsIn s segments → (f : Piece) → IsIn f (free s)
      → (v : Move) × IsIn v moves × (piece_end f ≡ v.to)
  -- the layout afterwards
  pub lawful : IsLawfulLayout after
  pub ends : after.segments ≡ map (λ s. if takes g s then record s { end = end s } else s) old.segments
  pub free_ranges : after.free ≡ by_place (filter (λ p. not (is_in_parts old g p.place)) (free_in rows old)
      ++ flat_map free segments)
  pub rests : after.rests ≡ old.rests
  pub top : after.top ≡ old.top
