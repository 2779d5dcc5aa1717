-- Bits that tell where the objects of an image start.
use Rattle.std.specs.Prelude.{◌≡◌, ℕ, List}
use Rattle.clr_types.specs.declared.item.Item.{Item}
use Rattle.clr_sos.specs.Faults.{stands}
use Rattle.clr_load.specs.Starts.{has_start}
use Rattle.clr_load.specs.declared.starts.Range.{Range}

-- the starts are those of the objects among items
pub record AreStarts (starts : List Range) (items : List Item) : Type 0 where
  pub same : (x : ℕ) → has_start starts x ≡ stands items x
