-- The changes that lines make to a machine's state, one part at a time.
use Rattle.std.specs.Prelude.{ℕ, ◌+◌, ◌-◌, List, [], ◌∷◌, ◌++◌, map, replicate, length, Option, Some, None, Bool, true}
use Rattle.std.specs.Prelude.{false, slice_set}
use Rattle.std.specs.FinMap as finmap
use Rattle.clr_types.specs.Rising.{changed_by}
use Rattle.clr_types.specs.Ranges.{Piece, by_place, range_piece}
use Rattle.clr_types.specs.Types.{Form, slot_kinds, form_at}
use Rattle.clr_types.specs.declared.handle.Handle.{Handle}
use Rattle.clr_model.specs.Machine.{Value, ref, num, Object, ThreadStep, Machine}
use Rattle.clr_model.specs.Lookups.{local_index}
use Rattle.clr_types.specs.Segments.{Layout, rest_of, rest_pieces}

abbrev pub with_local : Machine → ℕ → ℕ → ℕ → Machine
with_local m t k name = record m { locals = slice_set m.locals (local_index t k) name }

abbrev pub with_slot_of : ℕ → Value → Object → Object
with_slot_of i value o = record o { slots = slice_set o.slots i value }

-- slot i of the object of this name takes the value
abbrev pub with_slot : Machine → ℕ → ℕ → Value → Machine
with_slot m name i value = record m { objects = changed_by (λ o. o.name) name (with_slot_of i value) m.objects }

abbrev pub with_flag_of : Bool → Object → Object
with_flag_of flag o = record o { suppressed = flag }

abbrev pub with_flag : Machine → ℕ → Bool → Machine
with_flag m name flag = record m { objects = changed_by (λ o. o.name) name (with_flag_of flag) m.objects }

abbrev pub with_step : Machine → ℕ → ThreadStep → Machine
with_step m t s = record m { steps = slice_set m.steps (t - 1) s }

abbrev pub with_handle : Machine → ℕ → Handle → Machine
with_handle m h row = record m { handles = finmap.insert m.handles h row }

abbrev pub without_handle : Machine → ℕ → Machine
without_handle m h = record m { handles = finmap.remove m.handles h }

abbrev pub with_entry : Machine → ℕ → Machine
with_entry m name = record m { entries = m.entries ++ (name ∷ []) }

-- ---- contexts

abbrev pub option_piece : List Piece → Option Piece
option_piece [] = None
option_piece (p ∷ ps) = Some p

-- the thread's context has the range from low to high left, or nothing where that is empty
abbrev pub with_rest : Layout → ℕ → ℕ → ℕ → Layout
with_rest layout t low high = record layout {
  rests =
      slice_set layout.rests (t - 1) (option_piece (range_piece low high));
}

abbrev pub pieces_of_option : Option Piece → List Piece
pieces_of_option None = []
pieces_of_option (Some p) = p ∷ []

-- the thread's context is given up, and what was left of it is a free item
abbrev pub given_up : Layout → ℕ → Layout
given_up layout t = record layout {
  free = by_place (layout.free ++ pieces_of_option (rest_of layout t));
  rests = slice_set layout.rests (t - 1) None;
}

-- every context is given up
abbrev pub all_given_up : Layout → Layout
all_given_up layout = record layout {
  free = by_place (layout.free ++ rest_pieces layout.rests);
  rests = replicate (length layout.rests) None;
}

-- ---- births

abbrev pub empty_value : Bool → Value
empty_value true = ref 0
empty_value false = num 0

-- the slots of a new object: null and 0
abbrev pub empty_slots : Form → ℕ → List Value
empty_slots form len = map empty_value (slot_kinds form len)

-- the object that is born at the place
abbrev pub newborn : Machine → ℕ → ℕ → ℕ → Object
newborn m place type len = record {
  name = m.born + 1;
  place = place;
  type = type;
  len = len;
  slots = empty_slots (form_at m.types type) len;
  suppressed = false;
}

-- an object is born at the place, and the local takes it
abbrev pub born_at : Machine → ℕ → ℕ → ℕ → ℕ → ℕ → Machine
born_at m t local place type len = record m {
  born = m.born + 1;
  objects = m.objects ++ (newborn m place type len ∷ []);
  locals = slice_set m.locals (local_index t local) (m.born + 1);
}
