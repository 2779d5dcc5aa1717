-- The pins that a plan has met, as the entries of the queue tell them.
use Rattle.std.specs.Prelude.{ℕ, ◌-◌, Bool, List, [], ◌∷◌, ◌++◌, drop, filter, map, if◌then◌else◌, nat_lt}
use Rattle.clr_types.specs.Ranges.{Piece}
use Rattle.clr_model.specs.Compaction.{Move, piece_of_plug, Plug}
use Rattle.clr_pinq.specs.declared.entry.PinEntry.{PinEntry}

-- whether an entry is that of a pin: that of a place alone ends where it starts
abbrev pub is_range : PinEntry → Bool
is_range e = nat_lt e.start e.end

abbrev pub range_of : PinEntry → Piece
range_of e = record { place = e.start; size = e.end - e.start }

-- the pins of these entries
abbrev pub ranges : List PinEntry → List Piece
ranges es = map range_of (filter is_range es)

-- the pins of the entries from number n on
abbrev pub ranges_from : ℕ → List PinEntry → List Piece
ranges_from n es = ranges (drop n es)

-- the pins with that of a plug, where it is pinned
abbrev pub with_pin : List Piece → Plug → List Piece
with_pin pins p = if p.pinned then pins ++ piece_of_plug p ∷ [] else pins

-- the plug's move to a place
abbrev pub move_to : Plug → ℕ → Move
move_to p to = record { start = p.start; size = p.size; to = to }
