-- An image in front of other bytes.
use Rattle.std.specs.Prelude.{ℕ, List, Bool}
use Rattle.clr_types.specs.Types.{TypeRow}
use Rattle.clr_fields.specs.Fields.{Fields, Found, gives, ◌>>=◌}
use Rattle.clr_fields.specs.TypeFields.{types_fields}
use Rattle.clr_format.specs.HeapFields.{heap_fields}
use Rattle.clr_format.specs.Images.{head_fields, here, is_first, judged, locals_field, Parts, Rest, version_tables}
use Rattle.clr_format.specs.declared.head.Head.{Head}

-- all fields, whatever stands behind them
unfoldable pub rest_front : Head → List TypeRow → Fields Rest
rest_front head types = do
  locals ← locals_field
  tables_at ← here
  tables ← version_tables head types
  gives (record { locals = locals; tables = tables; tables_at = tables_at })

unfoldable pub common_front : Head → Fields Parts
common_front head = do
  types ← types_fields
  body ← heap_fields head types
  rest ← rest_front head types
  gives (record { head = head; types = types; body = body; rest = rest })

unfoldable pub parts_front : Bool → Fields Parts
parts_front first = do
  head ← head_fields first
  common_front head

-- the parts of the image in front, and the offset behind it, or the first fault
unfoldable pub image_front : List ℕ → Found Parts
image_front bytes = judged (parts_front (is_first bytes) bytes 0)
