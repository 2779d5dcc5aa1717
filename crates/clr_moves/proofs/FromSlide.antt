-- The moves that slide a machine's large heap can be made by sliding.
use Rattle.std.proofs.Common.{◌≡◌, ℕ, ◌+◌, ◌<◌, ◌≤◌, List, ◌++◌, map, length, subst, arith, Bool, true}
use Rattle.clr_types.specs.Rising.{IsIn}
use Rattle.clr_types.specs.Ranges.{Piece, by_place}
use Rattle.clr_types.specs.Segments.{empty_segment, first_place, Layout, pieces_in, reserved_end, stands_in}
use Rattle.clr_types.specs.Types.{TypeRow}
use Rattle.clr_types.specs.declared.segment.SegInfo.{SegInfo}
use Rattle.clr_types.proofs.ChangedLists.{append_left, into_filter, IsIn-map}
use Rattle.clr_types.proofs.PieceGaps.{IsGapped}
use Rattle.clr_types.proofs.SegmentFacts.{between-stands}
use Rattle.clr_types.proofs.SortedLists.{into_sorted_by}
use Rattle.clr_types.proofs.TilePieces.{IsTile, tile, tiles-apart}
use Rattle.clr_heap.specs.View.{HeapView, segment_at}
use Rattle.clr_model.specs.Compaction.{Move, moved_pieces, plug_end}
use Rattle.clr_model.specs.Lawful.{IsLaid}
use Rattle.clr_model.specs.Machine.{Machine}
use Rattle.clr_model.specs.Slide.{IsLargeSlid, large_plugs, large_segments, slid_end, slid_free}
use Rattle.clr_model.specs.Sweep.{survivors}
use Rattle.clr_model.proofs.Landings.{LandsAmong}
use Rattle.clr_model.proofs.LargeSurvivors.{is-large, large-is}
use Rattle.clr_model.proofs.PlugsApart.{piece_of_move}
use Rattle.clr_model.proofs.PlugRoom.{IsPlug}
use Rattle.clr_model.proofs.SlidPlugs.{are, slid_landings, slid_tiles, source, starts, walked_plugs}
use Rattle.clr_view.specs.View.{layout_in}
use Rattle.clr_sweep.proofs.SurvivorsSwept.{at-in, seen}
use Rattle.clr_moves.specs.Moves.{AreMoves, IsInPart, IsMove, move_at, no_move, takes}
use Rattle.clr_moves.specs.declared.condemned.Condemned.TheVariants.{LargeSegments}
use Rattle.clr_moves.proofs.FromMachine.{all_follow, index_of}

module _ (rows : List TypeRow) (old : HeapView) (base : Machine) (laid : IsLaid (seen rows old base))
    (keeps : ℕ → Bool) (moves : List Move) (after : Layout)
    (c : IsLargeSlid (layout_in rows old) (survivors (seen rows old base) 2 keeps) moves after) where
  abbrev m : Machine
  m = seen rows old base

  abbrev parts : List SegInfo
  parts = large_segments m.layout

  -- large segments are those that have a part
  pub large_number : (s : SegInfo) → IsIn s parts
      → (t : ℕ) × (t < length old.segments) × (s ≡ segment_at old t) × (takes LargeSegments (segment_at old t) ≡ true)
  large_number s i =
      let (test, known) = large-is m laid s i in
      let (t, l, e) = index_of old.segments s known in
      (t, l, e, subst (λ u. takes LargeSegments u ≡ true) e test)

  pub large_segment : (t : ℕ) → t < length old.segments → takes LargeSegments (segment_at old t) ≡ true
      → IsIn (segment_at old t) parts
  large_segment t l e = is-large m laid (segment_at old t) (at-in old.segments t empty_segment l) e

  abbrev tiling : SegInfo → List Piece
  tiling s = by_place (pieces_in s (moved_pieces moves) ++ slid_free moves s)

  in_tiling : (s : SegInfo) (v : Move) → IsIn v moves → stands_in s v.to ≡ true → IsIn (piece_of_move v) (tiling s)
  in_tiling s v i e =
      into_sorted_by (λ (p : Piece). p.place) (piece_of_move v) (pieces_in s (moved_pieces moves) ++ slid_free moves s)
      (append_left (slid_free moves s)
      (into_filter (λ (p : Piece). stands_in s p.place) (moved_pieces moves) e
      (into_sorted_by (λ (p : Piece). p.place) (piece_of_move v) (map piece_of_move moves)
      (IsIn-map piece_of_move i))))

  -- each move is one of a plug
  one_slide : (v : Move) → IsIn v moves → IsMove old LargeSegments v
  one_slide v i =
      let landings = slid_landings m laid keeps moves after c in
      let (p, known, l) = landings.going.plug_of v i in
      let at : LandsAmong parts first_place v = landings.lands v i in
      let (t, inside, same, part) = large_number at.segment at.among in
      let plug : IsPlug parts p = (are m laid keeps moves after c).each p known in
      let (f, in_from, same_from, part_from) = large_number plug.home plug.among in
      let begins = starts m laid keeps moves after c in
      let start : v.start ≡ p.start = l.start in
      let size : v.size ≡ p.size = l.size in
      let lower : v.to ≤ p.start = l.lower in
      let big : 24 ≤ p.size = plug.size in
      let low = at.low in
      let high = at.high in
      let stands : stands_in at.segment v.to ≡ true = between-stands at.segment v.to low (omega arith) in
      let is : IsTile (first_place at.segment) (slid_end moves at.segment) (piece_of_move v) =
      tile (first_place at.segment) (slid_end moves at.segment) (tiling at.segment) (piece_of_move v)
      (slid_tiles m laid keeps moves after c at.segment at.among) (in_tiling at.segment v i stands) in
      let (zs, zp) = begins.whole p known in
      let (zn, zt) = is.size in
      let za = is.aligned in
      let (zf, zstart) = begins.aligned at.segment at.among in
      let plug_low : IsGapped (first_place plug.home) p.start = plug.low in
      let plug_high : plug_end p ≤ reserved_end plug.home = plug.high in
      record {
        lower = omega arith;
        least = omega arith;
        aligned = (omega arith, zt, omega arith);
        from = f;
        from_in = in_from;
        from_low = subst (λ (u : SegInfo). first_place u ≤ v.start) same_from (omega arith);
        from_high = subst (λ (u : SegInfo). v.start + v.size ≤ reserved_end u) same_from (omega arith);
        into = t;
        into_in = record {
          in_range = inside;
          takes = part;
          low = subst (λ (u : SegInfo). first_place u ≤ v.to) same low;
          high = subst (λ (u : SegInfo). v.to < reserved_end u) same (omega arith);
        };
        into_gap = subst (λ (u : SegInfo). IsGapped (first_place u) v.to) same is.low_gap;
        into_high = subst (λ (u : SegInfo). v.to + v.size ≤ reserved_end u) same high;
      }

  stands_in_large : (t place : ℕ) → IsInPart old LargeSegments t place → stands_in (segment_at old t) place ≡ true
  stands_in_large t place is = between-stands (segment_at old t) place is.low is.high

  -- THE MOVES can be made
  pub are_slides : AreMoves old LargeSegments moves
  are_slides = record {
    each = λ k l. one_slide (move_at moves k) (at-in moves k no_move l);
    follows =
        let walked = walked_plugs m laid keeps moves after c in
        let landings = slid_landings m laid keeps moves after c in
        all_follow parts (large_plugs m.layout (survivors m 2 keeps)) (source m laid keeps moves after c)
        (large_plugs m.layout (survivors m 2 keeps)) moves walked.landed
        walked.ordered (are m laid keeps moves after c).rise landings.scattered
        (λ k l. let big = (one_slide (move_at moves k) (at-in moves k no_move l)).least in omega arith);
    gapped = λ j k t lj lk in_j in_k above.
        let s = segment_at old t in
        let known = large_segment t in_j.in_range in_j.takes in
        let big = (one_slide (move_at moves j) (at-in moves j no_move lj)).least in
        tiles-apart (first_place s) (slid_end moves s) (tiling s) (piece_of_move (move_at moves j))
        (piece_of_move (move_at moves k)) (slid_tiles m laid keeps moves after c s known)
        (in_tiling s (move_at moves j) (at-in moves j no_move lj) (stands_in_large t (move_at moves j).to in_j))
        (in_tiling s (move_at moves k) (at-in moves k no_move lk) (stands_in_large t (move_at moves k).to in_k))
        (omega arith);
    starts = λ t l part.
        let s = segment_at old t in
        let known = large_segment t l part in
        let begins = starts m laid keeps moves after c in
        let (a, b) = begins.aligned s known in
        (begins.low s known, begins.high s known, b);
  }

  -- each of them starts in a part
  pub slide_start : (v : Move) → IsIn v moves → (t : ℕ) × IsInPart old LargeSegments t v.start
  slide_start v i =
      let landings = slid_landings m laid keeps moves after c in
      let (p, known, l) = landings.going.plug_of v i in
      let plug : IsPlug parts p = (are m laid keeps moves after c).each p known in
      let (t, inside, same, part) = large_number plug.home plug.among in
      let start : v.start ≡ p.start = l.start in
      let size : 24 ≤ p.size = plug.size in
      let low : IsGapped (first_place plug.home) p.start = plug.low in
      let high : plug_end p ≤ reserved_end plug.home = plug.high in (
        t,
        record {
          in_range = inside;
          takes = part;
          low = subst (λ (u : SegInfo). first_place u ≤ v.start) same (omega arith);
          high = subst (λ (u : SegInfo). v.start < reserved_end u) same (omega arith);
        },
      )
