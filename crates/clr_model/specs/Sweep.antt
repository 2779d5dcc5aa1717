-- The condemned parts of segments, what survives in them, and the layout that a sweep leaves.
use Rattle.std.specs.Prelude.{ℕ, min, List, [], ◌∷◌, ◌++◌, map, if◌then◌else◌, ◌==◌, nat_lt, nat_le, Bool, ◌&&◌, ◌||◌}
use Rattle.std.specs.Prelude.{not, filter}
use Rattle.std.specs.List.{flat_map, list_any}
use Rattle.clr_types.specs.Rising.{sorted_by}
use Rattle.clr_types.specs.Ranges.{Piece, by_place, gaps, end_of_last}
use Rattle.clr_model.specs.Machine.{Object, Machine}
use Rattle.clr_model.specs.Lookups.{object_size, is_pinned}
use Rattle.clr_types.specs.declared.segment.SegKind.{SegKind}
use Rattle.clr_types.specs.declared.segment.SegKind.TheVariants.{Ephemeral}
use Rattle.clr_types.specs.declared.segment.SegInfo.{SegInfo}
use Rattle.clr_types.specs.Segments.{Layout, first_place, same_kind, stands_in, ephemeral, generation}
use Rattle.clr_types.specs.Segments.{is_small_or_ephemeral, is_large_or_pinned}

-- an object that stays, as far as its layout goes: `segment` is the base of the segment in which it stands
pub record Survivor : Type 0 where
  pub place : ℕ
  pub size : ℕ
  pub segment : ℕ
  pub generation : ℕ
  pub pinned : Bool

abbrev pub base_at : List SegInfo → ℕ → ℕ
base_at [] place = 0
base_at (s ∷ ss) place = if stands_in s place then s.base else base_at ss place

abbrev pub survivor : Machine → Object → Survivor
survivor m o = record {
  place = o.place;
  size = object_size m.types o;
  segment = base_at m.layout.segments o.place;
  generation = generation m.layout o.place;
  pinned = is_pinned m o.name;
}

-- an object of a generation up to g
abbrev pub is_condemned : Machine → ℕ → Object → Bool
is_condemned m g o = nat_le (generation m.layout o.place) g

-- the condemned objects that stay, by rising place
abbrev pub survivors : Machine → ℕ → (ℕ → Bool) → List Survivor
survivors m g kept = sorted_by (λ s. s.place)
    (map (survivor m) (filter (λ o. is_condemned m g o && kept o.name) m.objects))

abbrev pub survivor_piece : Survivor → Piece
survivor_piece s = record { place = s.place; size = s.size }

abbrev pub survivor_pieces : SegInfo → List Survivor → List Piece
survivor_pieces s kept = map survivor_piece (filter (λ k. k.segment == s.base) kept)

-- every collection condemns a part of the ephemeral segment, and one of generation 2 every segment
abbrev pub has_condemned_part : ℕ → SegInfo → Bool
has_condemned_part g s = same_kind Ephemeral s.kind || (g == 2)

-- where the condemned part of the segment starts; it goes to the segment's end
abbrev pub part_start : Layout → ℕ → SegInfo → ℕ
part_start layout g s =
    if same_kind Ephemeral s.kind then
    (if g == 0 then layout.start0 else (if g == 1 then layout.start1 else first_place s)) else first_place s

-- the generations of a condemned part, each from low to high
pub record Section : Type 0 where
  pub low : ℕ
  pub high : ℕ

abbrev pub old_sections : Layout → ℕ → SegInfo → List Section
old_sections layout g s =
    (if g == 2 then record { low = first_place s; high = layout.start1 } ∷ [] else [])
    ++ (if g == 0 then [] else record { low = layout.start1; high = layout.start0 } ∷ [])

abbrev pub sections : Layout → ℕ → SegInfo → List Section
sections layout g s =
    if same_kind Ephemeral s.kind
    then old_sections layout g s ++ (record { low = layout.start0; high = s.end } ∷ [])
    else record { low = first_place s; high = s.end } ∷ []

abbrev pub pieces_between : ℕ → ℕ → List Piece → List Piece
pieces_between low high = filter (λ p. nat_le low p.place && nat_lt p.place high)

-- a swept part ends with its last kept object, or where it starts
abbrev pub swept_end : Layout → ℕ → List Survivor → SegInfo → ℕ
swept_end layout g kept s = end_of_last (part_start layout g s) (survivor_pieces s kept)

-- below the new end, what kept objects leave inside one old generation is free
abbrev pub swept_free : Layout → ℕ → List Survivor → SegInfo → List Piece
swept_free layout g kept s =
    flat_map (λ section. gaps section.low (min section.high (swept_end layout g kept s))
    (pieces_between section.low section.high (survivor_pieces s kept)))
    (sections layout g s)

-- the piece stands in a condemned part of a segment of these kinds
abbrev pub is_in_part : (SegKind → Bool) → Layout → ℕ → Piece → Bool
is_in_part kinds layout g p =
    list_any (λ s. kinds s.kind && (has_condemned_part g s &&
    (stands_in s p.place && nat_le (part_start layout g s) p.place))) layout.segments

-- the segments of these kinds that have a condemned part
abbrev pub taking_part : (SegKind → Bool) → ℕ → Layout → List SegInfo
taking_part kinds g layout = filter (λ s. kinds s.kind && has_condemned_part g s) layout.segments

-- new free items in the condemned parts of these kinds, and all others as they were
abbrev pub free_after : (SegKind → Bool) → Layout → ℕ → List Piece → List Piece
free_after kinds layout g fresh = by_place (filter (λ p. not (is_in_part kinds layout g p)) layout.free ++ fresh)

abbrev pub segments_after : (SegKind → Bool) → ℕ → (SegInfo → ℕ) → List SegInfo → List SegInfo
segments_after kinds g end_after segments =
    map (λ s. if kinds s.kind && has_condemned_part g s then record s { end = end_after s } else s) segments

-- No object moves, and each generation of the condemned parts becomes the next older one.
abbrev pub swept_small : Layout → ℕ → List Survivor → Layout
swept_small layout g kept =
    let kinds = is_small_or_ephemeral in
    let end = swept_end layout g kept (ephemeral layout) in
    record layout {
      segments = segments_after kinds g (swept_end layout g kept) layout.segments;
      free = free_after kinds layout g (flat_map (swept_free layout g kept) (taking_part kinds g layout));
      start1 = if g == 0 then layout.start1 else min layout.start0 end;
      start0 = end;
    }

-- the large and the pinned segments, swept in a collection of generation 2
abbrev pub swept_others : Layout → ℕ → List Survivor → Layout
swept_others layout g kept = record layout {
  segments = segments_after is_large_or_pinned g (swept_end layout g kept) layout.segments;
  free = free_after is_large_or_pinned layout g
      (flat_map (swept_free layout g kept) (taking_part is_large_or_pinned g layout));
}
