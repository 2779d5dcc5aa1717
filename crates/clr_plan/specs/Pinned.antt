-- The header bits that tell which objects are pinned.
use Rattle.std.specs.Prelude.{◌≡◌, ◌-◌, List}
use Rattle.clr_types.specs.Rising.{IsIn}
use Rattle.clr_types.specs.Types.{TypeRow}
use Rattle.clr_heap.specs.View.{HeapView, word_of}
use Rattle.clr_model.specs.Lookups.{is_pinned}
use Rattle.clr_model.specs.Machine.{Machine, Object}
use Rattle.clr_view.specs.View.{objects_in}
pub use Rattle.clr_plan.specs.Scans.{has_pin}

-- the headers of the heap's objects tell which of them the machine's handles pin
abbrev pub TellsPins : List TypeRow → HeapView → Machine → Type 0
TellsPins rows h m = (o : Object) → IsIn o (objects_in rows h) → is_pinned m o.name ≡ has_pin (word_of h (o.place - 8))
