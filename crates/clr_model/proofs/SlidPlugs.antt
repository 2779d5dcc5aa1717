-- The plugs of a slide: where they land, and what they leave free.
use Rattle.std.proofs.Common.{◌≡◌, ℕ, ◌+◌, ◌≤◌, List, ◌++◌, refl, arith}
use Rattle.std.proofs.Common.{Bool, true, false}
use Rattle.clr_types.specs.Rising.{IsIn}
use Rattle.clr_types.specs.Ranges.{Piece, Tiles, by_place}
use Rattle.clr_types.specs.declared.segment.SegKind.TheVariants.{Large}
use Rattle.clr_types.specs.declared.segment.SegInfo.{SegInfo}
use Rattle.clr_types.specs.Segments.{Layout, first_place, reserved_end, pieces_in, same_kind}
use Rattle.clr_types.proofs.PieceGaps.{last-in}
use Rattle.clr_types.proofs.PieceGaps.{IsGapped}
use Rattle.clr_model.specs.Machine.{Machine}
use Rattle.clr_model.specs.Lawful.{IsLaid}
use Rattle.clr_model.specs.Sweep.{survivors}
use Rattle.clr_model.specs.Compaction.{Plug, plug_end, Move, moved_pieces, survivors_in}
use Rattle.clr_model.specs.Slide.{large_segments, large_plugs, lowest_place, slid_end, slid_free, IsLargeSlid}
use Rattle.clr_model.proofs.PlugRoom.{IsPlug, IsClear, room-clear, ArePlugs}
use Rattle.clr_model.proofs.FirstPointer.{AreStarts}
use Rattle.clr_model.proofs.PlugWalk.{Walk, walk_of, AreInLine, IsLanded, IsWalked, plug_of_move, move_of_plug}
use Rattle.clr_model.proofs.PlacedPlugs.{in_line, placed_starts}
use Rattle.clr_model.proofs.PlugsApart.{landed-scattered}
use Rattle.clr_model.proofs.PlugLanding.{MayStart, done, IsBeforePin, segment-tiles, gap-before-pin, blocks, block-high}
use Rattle.clr_model.proofs.CompactedPieces.{each-rises}
use Rattle.clr_model.proofs.Landings.{AreLandings, IsMoveOf, LandsAmong}
use Rattle.clr_model.proofs.LargeSurvivors.{IsLargeSurvivor, large_survivor-is, large-is}
use Rattle.clr_model.proofs.LargeSurvivors.{are_large-plugs, are_large-starts, is_large-survivor}
use Rattle.clr_model.proofs.LargeSlid.{one-large}

module _ (m : Machine) (h : IsLaid m) (keeps : ℕ → Bool) (moves : List Move) (new : Layout)
    (c : IsLargeSlid m.layout (survivors m 2 keeps) moves new) where
  abbrev pub parts : List SegInfo
  parts = large_segments m.layout

  abbrev pub plugs : List Plug
  plugs = large_plugs m.layout (survivors m 2 keeps)

  abbrev pub pointer : ℕ
  pointer = lowest_place m.layout

  pub are : ArePlugs parts plugs
  are = are_large-plugs m h keeps

  pub starts : AreStarts parts plugs first_place pointer
  starts = are_large-starts m h keeps (one-large m h).0 (one-large m h).1

  pub line : AreInLine plugs plugs
  line = in_line parts plugs are plugs are.rise (λ p i. i)

  walk : Walk parts plugs pointer plugs moves c.after
  walk = walk_of parts plugs pointer plugs moves c.after c.placed

  abbrev pub source : ℕ → Type 0
  source = MayStart parts plugs moves pointer

  pub walked_plugs : IsWalked parts plugs source pointer plugs moves c.after
  walked_plugs = done parts plugs are first_place pointer starts plugs moves c.after line (λ p i. i) walk

  move-of : (p : Plug) (v : Move) → IsLanded parts plugs source p v → IsMoveOf p v
  move-of p v is = record { start = is.start; size = is.size; pinned = is.pinned; lower = is.lower }

  lands : (v : Move) → IsIn v moves → LandsAmong parts first_place v
  lands v i =
      let (p, j, is) = plug_of_move (IsLanded parts plugs source) plugs moves v walked_plugs.landed i in
      go p j is p.pinned refl
    where
      go : (p : Plug) → IsIn p plugs → IsLanded parts plugs source p v → (b : Bool) → p.pinned ≡ b
          → LandsAmong parts first_place v
      go p j is true e =
          let at : IsPlug parts p = are.each p j in
          let to : v.to ≡ p.start = is.pinned e in
          let z : v.size ≡ p.size = is.size in
          let a : IsGapped (first_place at.home) p.start = at.low in
          let d : plug_end p ≤ reserved_end at.home = at.high in
          record { segment = at.home; among = at.among; low = omega arith; from = omega arith; high = omega arith }
      go p j is false e =
          let f = is.fits e in
          let clear : IsClear plugs f.0 p.size v.to = room-clear parts plugs are f.0 p.size v.to f.1 f.4 in
          let tail : v.to + p.size ≤ reserved_end f.0 = clear.tail in
          let z : v.size ≡ p.size = is.size in
          record { segment = f.0; among = f.1; low = f.2; from = f.2; high = omega arith }

  -- The moves of a slide land its plugs.
  pub slid_landings : AreLandings m keeps (large_segments m.layout) first_place
      (survivors_in (same_kind Large) m.layout (survivors m 2 keeps))
      (large_plugs m.layout (survivors m 2 keeps)) moves
  slid_landings = record {
    going = record {
      plugs_in = λ p i. i;
      survivors_are = λ k i. let is : IsLargeSurvivor m h keeps k = large_survivor-is m h keeps k i in
          record { object = is.object; present = is.present; kept_on = is.kept_on; is = is.is; size = is.size };
      apart = are.apart;
      plug_of = λ v i. let (p, j, is) =
          plug_of_move (IsLanded parts plugs source) plugs moves v walked_plugs.landed i in (p, j, move-of p v is);
      rise = each-rises plugs moves (placed_starts parts plugs pointer plugs moves c.after c.placed) are.rise;
    };
    known = λ s i. (large-is m h s i).1;
    plugs_are = refl;
    survives = λ o i stays s here stands up. is_large-survivor m h keeps o i stays s here stands;
    move_of = λ p i. let (v, j, is) =
        move_of_plug (IsLanded parts plugs source) plugs moves p walked_plugs.landed i in (v, j, move-of p v is);
    lands = lands;
    scattered = landed-scattered parts plugs are source plugs moves line walked_plugs.landed walked_plugs.ordered;
  }

  -- The moved plugs and the new free items tile each large segment up to its new end.
  pub slid_tiles : (s : SegInfo) → IsIn s (large_segments m.layout)
      → Tiles (first_place s) (slid_end moves s) (by_place (pieces_in s (moved_pieces moves) ++ slid_free moves s))
  slid_tiles s i = segment-tiles parts plugs are first_place pointer starts plugs moves c.after line (λ p j. j) walk s i

  -- Each new free item is followed directly by a pinned plug.
  pub slid_free-before_pin : (s : SegInfo) → IsIn s (large_segments m.layout) → (f : Piece)
      → IsIn f (slid_free moves s) → IsBeforePin (large_plugs m.layout (survivors m 2 keeps)) f
  slid_free-before_pin s i f j =
      gap-before-pin parts plugs are first_place pointer starts plugs moves c.after line (λ p k. k) walk s i f j

  pub slid_end-in : (s : SegInfo) → IsIn s (large_segments m.layout)
      → (first_place s ≤ slid_end moves s) × (slid_end moves s ≤ reserved_end s)
  slid_end-in s i =
      last-in (first_place s) (pieces_in s (moved_pieces moves))
      (blocks parts plugs are first_place pointer starts plugs moves c.after line (λ p j. j) walk s i)
      (reserved_end s) (starts.high s i)
      (λ a j. block-high parts plugs are first_place pointer starts plugs moves c.after line (λ p k. k) walk s i a j)
