-- What the machine's state says of a name, a place, a thread and a type.
use Rattle.std.specs.Prelude.{ℕ, ◌+◌, ◌-◌, ◌*◌, List, [], ◌∷◌, ◌++◌, map, Option, Some, None, if◌then◌else◌, ◌==◌}
use Rattle.std.specs.Prelude.{nat_le, Bool, true, false, ◌&&◌, filter, slice_get, slice_index, sum_by}
use Rattle.std.specs.List.{list_any}
use Rattle.std.specs.FinMap as finmap
use Rattle.clr_types.specs.Kinds.{is_pinned_kind}
use Rattle.clr_types.specs.Rising.{find_by}
use Rattle.clr_types.specs.Ranges.{Piece, by_place}
use Rattle.clr_types.specs.Types.{TypeRow, form_at, has_finalizer, size_of, type_row}
use Rattle.clr_types.specs.Segments.{generation, rest_pieces}
use Rattle.clr_types.specs.declared.handle.Handle.{Handle}
use Rattle.clr_model.specs.Machine.{Value, Object, ThreadStep, no_step, begun_store, begun_new, Machine}

-- ---- types and sizes

abbrev pub object_size : List TypeRow → Object → ℕ
object_size rows o = size_of (form_at rows o.type) o.len

-- ---- objects by name and by place

abbrev pub object_named : List Object → ℕ → Option Object
object_named objects name = find_by (λ o. o.name) name objects

abbrev pub object_at : List Object → ℕ → Option Object
object_at objects place = find_by (λ o. o.place) place objects

abbrev pub place_or_null : Option Object → ℕ
place_or_null None = 0
place_or_null (Some o) = o.place

-- the place of the object of this name, and null for null
abbrev pub place_of : List Object → ℕ → ℕ
place_of objects name = if name == 0 then 0 else place_or_null (object_named objects name)

abbrev pub slots_or_none : Option Object → List Value
slots_or_none None = []
slots_or_none (Some o) = o.slots

abbrev pub slots_of_named : Machine → ℕ → List Value
slots_of_named m name = slots_or_none (object_named m.objects name)

-- the type of an object, 0 where there is none
abbrev pub type_of_object : Option Object → ℕ
type_of_object None = 0
type_of_object (Some o) = o.type

abbrev pub type_of_named : Machine → ℕ → ℕ
type_of_named m name = type_of_object (object_named m.objects name)

abbrev pub object_has_finalizer : Machine → ℕ → Bool
object_has_finalizer m name = has_finalizer (type_row m.types (type_of_named m name))

-- ---- threads

abbrev pub is_thread : ℕ → Bool
is_thread t = nat_le 1 t && nat_le t 16

abbrev pub local_index : ℕ → ℕ → ℕ
local_index t k = 64 * (t - 1) + k

abbrev pub local_of : Machine → ℕ → ℕ → ℕ
local_of m t k = slice_index m.locals (local_index t k)

abbrev pub step_or_none : Option ThreadStep → ThreadStep
step_or_none None = no_step
step_or_none (Some s) = s

abbrev pub step_of : Machine → ℕ → ThreadStep
step_of m t = step_or_none (slice_get m.steps (t - 1))

abbrev pub is_step : ThreadStep → Bool
is_step no_step = false
is_step (begun_store object slot) = true
is_step (begun_new type len local) = true

-- the lowest thread that is between the halves of a step, counted from t
abbrev pub lowest_step_from : ℕ → List ThreadStep → Option ℕ
lowest_step_from t [] = None
lowest_step_from t (s ∷ ss) = if is_step s then Some t else lowest_step_from (t + 1) ss

abbrev pub lowest_in_step : Machine → Option ℕ
lowest_in_step m = lowest_step_from 1 m.steps

-- ---- handles

abbrev pub handle_rows : Machine → List Handle
handle_rows m = finmap.values m.handles

-- a pinned handle has this object as its target
abbrev pub is_pinned : Machine → ℕ → Bool
is_pinned m name = list_any (λ row. is_pinned_kind row.kind && (row.target == name)) (handle_rows m)

-- ---- what fills memory

abbrev pub object_piece : List TypeRow → Object → Piece
object_piece rows o = record { place = o.place; size = object_size rows o }

-- the objects' ranges, the free items and the rests of contexts, by rising place
abbrev pub pieces : Machine → List Piece
pieces m = by_place ((map (object_piece m.types) m.objects ++ m.layout.free) ++ rest_pieces m.layout.rests)

-- ---- bytes

-- the bytes of all objects
abbrev pub bytes_of : Machine → ℕ
bytes_of m = sum_by (object_size m.types) m.objects

-- the bytes of the objects that a test passes
abbrev pub bytes_where : Machine → (Object → Bool) → ℕ
bytes_where m test = sum_by (object_size m.types) (filter test m.objects)

-- the bytes of the objects of generation g and younger ones
abbrev pub bytes_up_to : Machine → ℕ → ℕ
bytes_up_to m g = bytes_where m (λ o. nat_le (generation m.layout o.place) g)
