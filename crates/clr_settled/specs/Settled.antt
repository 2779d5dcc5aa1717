-- What an image keeps of a state.
use Rattle.std.specs.Prelude.{ℕ, List, [], ◌∷◌, ◌++◌, None, Option}
use Rattle.clr_types.specs.Ranges.{by_place, Piece}
use Rattle.clr_types.specs.Segments.{Layout, reserved_end}
use Rattle.clr_types.specs.declared.segment.SegInfo.{SegInfo}
use Rattle.clr_model.specs.Machine.{begun_new, begun_store, Machine, no_step, Sums, ThreadStep}
use Rattle.clr_model.specs.Updates.{pieces_of_option}

-- a thread that has begun an object keeps its context, and any other gives it up
abbrev pub kept_rest : ThreadStep → Option Piece → Option Piece
kept_rest no_step rest = None
kept_rest (begun_store object slot) rest = None
kept_rest (begun_new type len local) rest = rest

-- what is given up
abbrev pub left_rest : ThreadStep → Option Piece → List Piece
left_rest no_step rest = pieces_of_option rest
left_rest (begun_store object slot) rest = pieces_of_option rest
left_rest (begun_new type len local) rest = []

-- so with all threads
abbrev pub kept_rests : List ThreadStep → List (Option Piece) → List (Option Piece)
kept_rests steps [] = []
kept_rests [] (rest ∷ rests) = None ∷ kept_rests [] rests
kept_rests (step ∷ steps) (rest ∷ rests) = kept_rest step rest ∷ kept_rests steps rests

abbrev pub left_rests : List ThreadStep → List (Option Piece) → List Piece
left_rests steps [] = []
left_rests [] (rest ∷ rests) = pieces_of_option rest ++ left_rests [] rests
left_rests (step ∷ steps) (rest ∷ rests) = left_rest step rest ++ left_rests steps rests

-- where the last segment ends
abbrev pub highest_end : List SegInfo → ℕ
highest_end [] = 0
highest_end (s ∷ []) = reserved_end s
highest_end (s ∷ t ∷ ss) = highest_end (t ∷ ss)

-- the next segment begins behind the last one
abbrev pub settled_layout : List ThreadStep → Layout → Layout
settled_layout steps layout = record layout {
  free = by_place (layout.free ++ left_rests steps layout.rests);
  rests = kept_rests steps layout.rests;
  top = highest_end layout.segments;
}

abbrev pub no_sums : Sums
no_sums = record { spent0 = 0; spent_large = 0; promoted1 = 0; promoted2 = 0 }

-- WHAT AN IMAGE KEEPS: all but contexts, sums, where the next segment begins, and a background collection that runs
abbrev pub settled : Machine → Machine
settled m = record m { layout = settled_layout m.steps m.layout; sums = no_sums; background = None }
