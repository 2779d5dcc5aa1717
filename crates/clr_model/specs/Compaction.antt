-- The layout that a compaction leaves, by its plugs: each goes to the lowest candidate at or above the pointer at which
-- it fits.
use Rattle.std.specs.Prelude.{◌≡◌, ℕ, ◌+◌, ◌-◌, ◌≤◌, max, List, [], ◌∷◌, ◌++◌, map, if◌then◌else◌, ◌==◌, nat_lt, nat_le}
use Rattle.std.specs.Prelude.{Bool, ◌&&◌, ◌⊎◌, filter, IsTrue, Option, MatchOption, MatchBool, find}
use Rattle.std.specs.Bool.{beq}
use Rattle.std.specs.List.{flat_map, list_any}
use Rattle.clr_types.specs.Rising.{IsIn}
use Rattle.clr_types.specs.Ranges.{Piece, fits, by_place, gaps, end_of_last}
use Rattle.clr_model.specs.Sweep.{Survivor, part_start, taking_part, free_after, segments_after}
use Rattle.clr_types.specs.declared.segment.SegKind.{SegKind}
use Rattle.clr_types.specs.declared.segment.SegKind.TheVariants.{Ephemeral}
use Rattle.clr_types.specs.declared.segment.SegInfo.{SegInfo}
use Rattle.clr_types.specs.Segments.{Layout, first_place, reserved_end, same_kind, is_small_or_ephemeral, ephemeral}
use Rattle.clr_types.specs.Segments.{pieces_in, segment_or_empty}

-- ---- plugs

-- a plug: kept objects side by side that share their segment, their old generation, and whether they are pinned
pub record Plug : Type 0 where
  pub start : ℕ
  pub size : ℕ
  pub segment : ℕ
  pub generation : ℕ
  pub pinned : Bool

abbrev pub plug_end : Plug → ℕ
plug_end p = p.start + p.size

abbrev pub plug_of : Survivor → Plug
plug_of k = record { start = k.place; size = k.size; segment = k.segment; generation = k.generation; pinned = k.pinned }

-- the object belongs to the plug that follows it
abbrev pub joins : Survivor → Plug → Bool
joins k p = ((k.place + k.size == p.start) && (k.segment == p.segment)) &&
    ((k.generation == p.generation) && beq k.pinned p.pinned)

abbrev pub joined : Survivor → List Plug → List Plug
joined k [] = plug_of k ∷ []
joined k (p ∷ ps) = if joins k p then record p { start = k.place; size = k.size + p.size } ∷ ps else plug_of k ∷ p ∷ ps

-- the maximal runs of what survives, by rising place
abbrev pub plugs_of : List Survivor → List Plug
plugs_of [] = []
plugs_of (k ∷ ks) = joined k (plugs_of ks)

abbrev pub plugs_of_generation : ℕ → List Plug → List Plug
plugs_of_generation g = filter (λ p. p.generation == g)

-- ---- where a plug goes

-- a plug and its destination
pub record Move : Type 0 where
  pub start : ℕ
  pub size : ℕ
  pub to : ℕ

-- the first pinned plug of the segment that starts at the place or above it
abbrev pub next_pin : List Plug → SegInfo → ℕ → Option Plug
next_pin plugs s place = find (λ p. p.pinned && ((p.segment == s.base) && nat_le place p.start)) plugs

-- from this place to the next pinned plug, or else to the reserved end, there are bytes enough for the size
abbrev pub HasRoomAt : List Plug → SegInfo → ℕ → ℕ → Type 0
HasRoomAt plugs s size place = MatchOption (next_pin plugs s place) (place + size ≤ reserved_end s)
    (λ p. IsTrue (fits size (p.start - place)))

-- the size fits at the place, which stands in one of the segments or at the end of its reservation
abbrev pub FitsAt : List SegInfo → List Plug → ℕ → ℕ → Type 0
FitsAt segments plugs size place =
    (s : SegInfo) × IsIn s segments × (first_place s ≤ place) × (place ≤ reserved_end s) × HasRoomAt plugs s size place

-- candidates are the pointer, the ends of pinned plugs and the first places of the segments
abbrev pub IsCandidate : List SegInfo → List Plug → ℕ → ℕ → Type 0
IsCandidate segments plugs pointer place =
    (place ≡ pointer)
    ⊎ (((p : Plug) × IsIn p plugs × IsTrue p.pinned × (place ≡ plug_end p))
    ⊎ ((s : SegInfo) × IsIn s segments × (place ≡ first_place s)))

-- the place is the lowest candidate at or above the pointer at which the size fits
pub record IsDestination (segments : List SegInfo) (plugs : List Plug) (pointer size place : ℕ) : Type 0 where
  pub candidate : IsCandidate segments plugs pointer place
  pub not_below : pointer ≤ place
  pub fits : FitsAt segments plugs size place
  pub lowest : (other : ℕ) → IsCandidate segments plugs pointer other → pointer ≤ other
      → FitsAt segments plugs size other → place ≤ other

-- From the pointer these plugs, by rising place, make these moves, and the pointer is then `after`. A pinned plug stays
-- and leaves the pointer; another goes to its destination, and the pointer is the end of that.
abbrev pub Placed : List SegInfo → List Plug → ℕ → List Plug → List Move → ℕ → Type 0
Placed segments all pointer [] [] after = after ≡ pointer
Placed segments all pointer [] (v ∷ vs) after = ⊥
Placed segments all pointer (p ∷ ps) [] after = ⊥
Placed segments all pointer (p ∷ ps) (v ∷ vs) after =
    (v.start ≡ p.start) × (v.size ≡ p.size)
    × MatchBool p.pinned
    ((v.to ≡ p.start) × Placed segments all pointer ps vs after)
    (IsDestination segments all pointer p.size v.to × Placed segments all (v.to + v.size) ps vs after)

-- the place above each pinned plug that starts at it, one after another
abbrev pub raised_past_pins : List Plug → ℕ → ℕ
raised_past_pins [] place = place
raised_past_pins (p ∷ ps) place = raised_past_pins ps (if p.pinned && (p.start == place) then plug_end p else place)

-- where a place is afterwards: with its plug, or where it was
abbrev pub moved_by : List Move → ℕ → ℕ
moved_by [] place = place
moved_by (v ∷ vs) place = if nat_le v.start place && nat_lt place (v.start + v.size) then v.to + (place - v.start) else
    moved_by vs place

abbrev pub moved_pieces : List Move → List Piece
moved_pieces moves = by_place (map (λ v. record { place = v.to; size = v.size }) moves)

-- ---- the layout

abbrev pub survivors_in : (SegKind → Bool) → Layout → List Survivor → List Survivor
survivors_in kinds layout kept =
    filter (λ k. list_any (λ s. kinds s.kind && (s.base == k.segment)) layout.segments) kept

abbrev pub piece_of_plug : Plug → Piece
piece_of_plug p = record { place = p.start; size = p.size }

abbrev pub pinned_pieces : ℕ → List Plug → List Piece
pinned_pieces base plugs = map piece_of_plug (filter (λ p. p.pinned && (p.segment == base)) plugs)

-- where a segment ends afterwards: the ephemeral one behind its second boundary and its last pinned plug, another
-- behind its last
-- object, or at its first place where it has none
abbrev pub compacted_end : ℕ → List Plug → List Move → SegInfo → ℕ
compacted_end start0 plugs moves s =
    if same_kind Ephemeral s.kind
    then max start0 (end_of_last start0 (pinned_pieces s.base plugs))
    else end_of_last (first_place s) (pieces_in s (moved_pieces moves))

abbrev pub compacted_free : Layout → ℕ → ℕ → List Plug → List Move → SegInfo → List Piece
compacted_free layout g start0 plugs moves s =
    gaps (part_start layout g s) (compacted_end start0 plugs moves s) (pieces_in s (moved_pieces moves))

-- where the pointer begins: the start of the condemned part of the lowest segment that takes part
abbrev pub first_pointer : Layout → ℕ → List SegInfo → ℕ
first_pointer layout g segments = part_start layout g (segment_or_empty segments)

-- the small heap compacted: the generations are placed from the oldest to the youngest
pub record IsCompacted (layout : Layout) (g : ℕ) (kept : List Survivor) (moves : List Move)
    (new : Layout) : Type 0 where
  pub after2 : ℕ
  pub after1 : ℕ
  pub after0 : ℕ
  pub moves2 : List Move
  pub moves1 : List Move
  pub moves0 : List Move
  pub segments : List SegInfo
  pub segments_are : segments ≡ taking_part is_small_or_ephemeral g layout
  pub plugs : List Plug
  pub plugs_are : plugs ≡ plugs_of (survivors_in is_small_or_ephemeral layout kept)
  pub placed2 : Placed segments plugs (first_pointer layout g segments) (plugs_of_generation 2 plugs) moves2 after2
  pub placed1 : Placed segments plugs after2 (plugs_of_generation 1 plugs) moves1 after1
  pub start1 : new.start1 ≡ (if g == 0 then layout.start1 else
      raised_past_pins (filter (λ p. nat_le 1 p.generation) plugs) (max after1 (first_place (ephemeral layout))))
  pub placed0 : Placed segments plugs (if g == 0 then after1 else new.start1)
      (plugs_of_generation 0 plugs) moves0 after0
  pub start0 : new.start0 ≡ raised_past_pins plugs after0
  pub moves_are : moves ≡ (moves2 ++ moves1) ++ moves0
  pub ends : new.segments ≡ segments_after is_small_or_ephemeral g
      (compacted_end new.start0 plugs moves) layout.segments
  pub free : new.free ≡ free_after is_small_or_ephemeral layout g
      (flat_map (compacted_free layout g new.start0 plugs moves) segments)
  pub rests : new.rests ≡ layout.rests
  pub top : new.top ≡ layout.top
