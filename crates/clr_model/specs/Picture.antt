-- A machine with other names, and its picture: the same machine with each object named by its place.
use Rattle.std.specs.Prelude.{ℕ, map}
use Rattle.std.specs.Option.{option_map}
use Rattle.clr_types.specs.Rising.{sorted_by}
use Rattle.clr_types.specs.Maps.{map_values}
use Rattle.clr_types.specs.declared.handle.Handle.{Handle}
use Rattle.clr_model.specs.Machine.{Value, ref, num, Object, ThreadStep, no_step, begun_store, begun_new, Marking}
use Rattle.clr_model.specs.Machine.{Machine}
use Rattle.clr_model.specs.Lookups.{place_of}

abbrev pub renamed_value : (ℕ → ℕ) → Value → Value
renamed_value to (ref name) = ref (to name)
renamed_value to (num number) = num number

abbrev pub renamed_object : (ℕ → ℕ) → Object → Object
renamed_object to o = record o { name = to o.name; slots = map (renamed_value to) o.slots }

abbrev pub renamed_row : (ℕ → ℕ) → Handle → Handle
renamed_row to row = record row { target = to row.target; second = to row.second }

abbrev pub renamed_step : (ℕ → ℕ) → ThreadStep → ThreadStep
renamed_step to no_step = no_step
renamed_step to (begun_store object slot) = begun_store (to object) slot
renamed_step to (begun_new type len local) = begun_new type len local

abbrev pub renamed_marking : (ℕ → ℕ) → Marking → Marking
renamed_marking to marking = record {
  white = map to marking.white;
  gray = map to marking.gray;
  black = map to marking.black;
}

-- each name changed; the objects stand by rising name
abbrev pub renamed : (ℕ → ℕ) → Machine → Machine
renamed to m = record m {
  objects = sorted_by (λ o. o.name) (map (renamed_object to) m.objects);
  locals = map to m.locals;
  handles = map_values (renamed_row to) m.handles;
  entries = map to m.entries;
  ready = map to m.ready;
  steps = map (renamed_step to) m.steps;
  background = option_map (renamed_marking to) m.background;
}

-- What can be seen of a machine: each object is named by its place, and nothing tells how many were born.
abbrev pub picture : Machine → Machine
picture m = record (renamed (place_of m.objects) m) { born = 0 }
