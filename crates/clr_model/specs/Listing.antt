-- The listing of the heap: objects and free items by rising place. What is left of contexts isn't in it.
use Rattle.std.specs.Prelude.{◌-◌, List, ◌++◌, map}
use Rattle.clr_types.specs.Rising.{sorted_by}
use Rattle.clr_types.specs.Ranges.{Piece}
use Rattle.clr_types.specs.Types.{TypeRow}
use Rattle.clr_types.specs.declared.item.Item.{Item}
use Rattle.clr_model.specs.Machine.{Object, Machine}
use Rattle.clr_model.specs.Lookups.{object_size}

-- the item of a walk that an object is
abbrev pub object_item : List TypeRow → Object → Item
object_item rows o = record { place = o.place; size = object_size rows o; type_id = record { 0 = o.type }; len = o.len }

-- a free item has type 0, and as its length its size less 24
abbrev pub free_item : Piece → Item
free_item p = record { place = p.place; size = p.size; type_id = record { 0 = 0 }; len = p.size - 24 }

-- an item of the listing is an object's or a free one
abbrev pub items : Machine → List Item
items m = map (object_item m.types) m.objects ++ map free_item m.layout.free

abbrev pub listing : Machine → List Item
listing m = sorted_by (λ i. i.place) (items m)
