-- The slots of items that refer to objects of lower generations.
use Rattle.std.specs.Prelude.{ℕ, List, [], ◌∷◌, filter, get_or}
use Rattle.std.specs.List.{flat_map}
use Rattle.clr_types.specs.declared.item.Item.{Item}
use Rattle.clr_heap.specs.View.{word_of}
use Rattle.clr_model.specs.Looks.{is_younger, younger_line, younger_slots}
use Rattle.clr_model.specs.Machine.{Machine, num, Object, Value}
use Rattle.clr_view.specs.View.{object_in, objects_among}
use Rattle.clr_sos.specs.declared.view.View.{View}

-- the object that an item is
abbrev pub object_of : View → Item → Object
object_of v i = object_in v.types.now (word_of v.heap.now) i

-- the objects among items
abbrev pub objects_of : View → List Item → List Object
objects_of v items = objects_among v.types.now (word_of v.heap.now) items

-- the lines of the slots of objects that refer to objects of lower generations
abbrev pub younger_lines : Machine → List Object → List ℕ
younger_lines m objects = flat_map (λ o. flat_map (younger_line m o) (younger_slots m o)) objects

-- slot i of an object, where it refers to an object of a lower generation, and else nothing
abbrev pub younger_at : Machine → Object → ℕ → List (ℕ × Value)
younger_at m o i = filter (λ s. is_younger m.layout o.place s.1) ((i, get_or o.slots i (num 0)) ∷ [])
