-- A compaction of generation 1 that puts its survivors first into free items of generation 2: it is a fit, and then the
-- usual compaction of what found no room.
use Rattle.std.specs.Prelude.{◌≡◌, ℕ, ◌+◌, List, [], ◌∷◌, ◌++◌, map, if◌then◌else◌, ◌==◌, nat_le, nat_lt, Bool, ◌&&◌}
use Rattle.std.specs.Prelude.{not}
use Rattle.std.specs.Prelude.{filter, Option, None, Some, find}
use Rattle.std.specs.List.{flat_map, list_any}
use Rattle.clr_types.specs.Ranges.{Piece, piece_end, fits, by_place, range_piece}
use Rattle.clr_types.specs.Segments.{Layout, is_small_or_ephemeral, generation, stands_in}
use Rattle.clr_model.specs.Sweep.{Survivor, survivor_piece}
use Rattle.clr_model.specs.Compaction.{Plug, Move, plugs_of, survivors_in, IsCompacted}

-- ---- items

-- a free item of generation 2 of the small heap
abbrev pub is_older_item : Layout → Piece → Bool
is_older_item layout i =
    list_any (λ s. is_small_or_ephemeral s.kind && stands_in s i.place) layout.segments
    && (generation layout i.place == 2)

abbrev pub older_items : Layout → List Piece
older_items layout = filter (is_older_item layout) layout.free

-- the lowest of these items in which the size fits
abbrev pub lowest_item : ℕ → List Piece → Option Piece
lowest_item size items = find (λ i. fits size i.size) items

-- the item at the place gives the size from its front, and what is left of it stays
abbrev pub taken_from : ℕ → ℕ → List Piece → List Piece
taken_from place size = flat_map (λ i. if i.place == place then range_piece (i.place + size) (piece_end i) else i ∷ [])

-- ---- a fit

-- where plugs go that found room in items, and what they leave of the items
pub record Fit : Type 0 where
  pub moves : List Move
  pub left : List Piece

-- a plug that goes into the item, before what the others behind it do; where there is no item, they alone
abbrev pub fit_into : Plug → Option Piece → (List Piece → Fit) → List Piece → Fit
fit_into p None others items = others items
fit_into p (Some i) others items =
    let rest = others (taken_from i.place p.size items) in
    record { moves = record { start = p.start; size = p.size; to = i.place } ∷ rest.moves; left = rest.left }

-- each plug goes to the front of the lowest item in which it fits, as the plugs before it left the items
abbrev pub fit : List Plug → List Piece → Fit
fit [] items = record { moves = []; left = items }
fit (p ∷ ps) items = fit_into p (lowest_item p.size items) (fit ps) items

-- the plugs that may go into items: those of generation 1 that aren't pinned
abbrev pub fitting_plugs : List Plug → List Plug
fitting_plugs = filter (λ p. not p.pinned && (p.generation == 1))

abbrev pub fit_of : Layout → List Survivor → Fit
fit_of layout kept =
    fit (fitting_plugs (plugs_of (survivors_in is_small_or_ephemeral layout kept))) (older_items layout)

-- the place goes with one of these moves
abbrev pub is_moved : List Move → ℕ → Bool
is_moved moves place = list_any (λ v. nat_le v.start place && nat_lt place (v.start + v.size)) moves

-- Those that found no room
abbrev pub unfitted : Fit → List Survivor → List Survivor
unfitted fit = filter (λ k. not (is_moved fit.moves k.place))

-- the layout with the others in their items; where they stood is free
abbrev pub fitted_layout : Layout → List Survivor → Fit → Layout
fitted_layout layout kept fit = record layout {
  free = by_place ((filter (λ i. not (is_older_item layout i)) layout.free ++ fit.left)
      ++ map survivor_piece (filter (λ k. is_moved fit.moves k.place) kept));
}

-- the small heap after a fitting collection of generation 1
pub record IsFitted (layout : Layout) (kept : List Survivor) (moves : List Move) (new : Layout) : Type 0 where
  pub others : List Move
  pub compacted : IsCompacted (fitted_layout layout kept (fit_of layout kept)) 1 (unfitted (fit_of layout kept) kept)
      others new
  pub moves_are : moves ≡ (fit_of layout kept).moves ++ others
