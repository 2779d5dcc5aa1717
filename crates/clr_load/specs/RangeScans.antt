-- What a scan of a segment answers.
use Rattle.std.specs.Prelude.{◌≡◌, ℕ, ◌+◌, ◌-◌, ◌≤◌, length, List, Result, Ok, Err}
use Rattle.clr_types.specs.Segments.{first_place}
use Rattle.clr_types.specs.declared.item.Item.{Item}
use Rattle.clr_fields.specs.declared.fault.LoadFault.{LoadFault}
use Rattle.clr_fields.specs.declared.fault.LoadFault.TheVariants.{At, NoMemory}
use Rattle.clr_sos.specs.Faults.{stands}
use Rattle.clr_format.specs.HeapFields.{offset_in}
use Rattle.clr_load.specs.ItemScans.{IsRangeOf, items_of}
use Rattle.clr_load.specs.Starts.{has_place}
use Rattle.clr_load.specs.declared.cells.Scan.{Scan}
use Rattle.clr_load.specs.declared.starts.Range.{Range}

-- the items of a segment, whose objects are marked, and all of whose memory is there
pub record AreScanned (s : Scan) (r : Range) : Type 0 where
  pub items : List Item
  pub found : items_of s ≡ Ok items
  pub range : IsRangeOf s r
  pub marked : (x : ℕ) → has_place r x ≡ stands items x
  pub there : s.at + (s.info.end - first_place s.info) ≤ length s.bytes.now

-- the address of a fault, by its offset
pub record IsFaultAt (s : Scan) (offset : ℕ) : Type 0 where
  pub address : ℕ
  pub found : items_of s ≡ Err address
  pub is : offset ≡ offset_in s.info s.at address

abbrev pub ScansItems : Scan → Result Range LoadFault → Type 0
ScansItems s (Ok r) = AreScanned s r
ScansItems s (Err (At o)) = IsFaultAt s o
ScansItems s (Err NoMemory) = Unit {0}
