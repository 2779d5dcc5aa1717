-- Free items and objects.
use Rattle.std.specs.Prelude.{Bool, not, nat_eq}
use Rattle.clr_types.specs.declared.item.Item.{Item}

-- an item of type 0 is free
abbrev pub is_free : Item → Bool
is_free i = nat_eq i.type_id.0 0

-- and any other is an object
abbrev pub is_object : Item → Bool
is_object i = not (is_free i)
