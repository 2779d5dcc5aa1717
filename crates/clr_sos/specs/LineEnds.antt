-- How the lines of items end, behind their places.
use Rattle.std.specs.Prelude.{◌≡◌, ℕ, ◌<◌, ◌≤◌, List, ◌++◌, All, length, take}
use Rattle.clr_types.specs.Types.{TypeRow}
use Rattle.clr_types.specs.declared.item.Item.{Item}
use Rattle.clr_nums.specs.Numbers.{hex16}
use Rattle.clr_model.specs.Sos.{item_line}
use Rattle.clr_sos.specs.declared.line_ends.LineEnd.{LineEnd}

-- where an end is kept, the line of each item of its type and size is the place and this end
pub record IsLineEnd (rows : List TypeRow) (e : LineEnd) : Type 0 where
  pub within : e.count ≤ 64
  pub ends : 0 < e.count → (i : Item) → i.type_id.0 ≡ e.type_id.0 → i.size ≡ e.size
      → hex16 i.place ++ take e.count e.bytes ≡ item_line rows i

-- eight ends
pub record AreLineEnds (rows : List TypeRow) (ends : List LineEnd) : Type 0 where
  pub count : length ends ≡ 8
  pub each : All (IsLineEnd rows) ends
