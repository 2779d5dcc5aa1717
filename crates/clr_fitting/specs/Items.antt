-- A fit item by item: each item, by rising place, takes in turn the plugs that no lower item took.
use Rattle.std.specs.Prelude.{ℕ, ◌+◌, ◌-◌, List, [], ◌∷◌, ◌++◌, if◌then◌else◌}
use Rattle.clr_types.specs.Ranges.{Piece, fits, range_piece}
use Rattle.clr_model.specs.Compaction.{Plug, Move}
use Rattle.clr_model.specs.Fitting.{Fit}

-- what goes into an item, the plugs that it leaves for higher ones, and what is left of it
pub record Filled : Type 0 where
  pub moves : List Move
  pub over : List Plug
  pub rest : List Piece

-- a plug more that goes to this place
abbrev pub with_move : Plug → ℕ → Filled → Filled
with_move p place f = record f { moves = record { start = p.start; size = p.size; to = place } ∷ f.moves }

-- a plug more that the item leaves
abbrev pub with_over : Plug → Filled → Filled
with_over p f = record f { over = p ∷ f.over }

-- an item of which so many bytes are left, from this place on: each plug in turn goes to their front, if it fits there
abbrev pub filled : ℕ → ℕ → List Plug → Filled
filled place room [] = record { moves = []; over = []; rest = range_piece place (place + room) }
filled place room (p ∷ ps) =
    if fits p.size room
    then with_move p place (filled (place + p.size) (room - p.size) ps)
    else with_over p (filled place room ps)

-- one item after the other
abbrev pub fit_by_item : List Piece → List Plug → Fit
fit_by_item [] ps = record { moves = []; left = [] }
fit_by_item (i ∷ is) ps =
    let f = filled i.place i.size ps in
    let others = fit_by_item is f.over in
    record { moves = f.moves ++ others.moves; left = f.rest ++ others.left }
