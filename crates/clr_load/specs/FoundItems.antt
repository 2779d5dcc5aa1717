-- An item of an image that was found by the checks.
use Rattle.std.specs.Prelude.{◌≡◌, ℕ, ◌+◌, ◌-◌, ◌≤◌, List, [], map, Ok}
use Rattle.clr_types.specs.Segments.{first_place}
use Rattle.clr_types.specs.declared.item.Item.{Item}
use Rattle.clr_sos.specs.CheckedCells.{checked_item, checked_items, Rules}
use Rattle.clr_format.specs.HeapFields.{references_in}
use Rattle.clr_load.specs.KnownStarts.{AreStarts}
use Rattle.clr_format.specs.NameTests.{first_failed, reference_test}
use Rattle.clr_load.specs.declared.starts.Range.{Range}
use Rattle.clr_load.specs.Scans.{words_in}
use Rattle.clr_load.specs.declared.cells.Scan.{Scan}

-- at this place the checks find this item, by whatever boundaries and threshold
pub record IsThere (s : Scan) (place : ℕ) (i : Item) : Type 0 where
  pub rules : Rules
  pub rows : rules.rows ≡ s.types.now
  pub end : rules.end ≡ s.info.end
  pub found : checked_item rules (words_in s) place ≡ Ok i

-- these are the items of a segment, by whatever boundaries and threshold
pub record AreThere (s : Scan) (here : List Item) : Type 0 where
  pub rules : Rules
  pub rows : rules.rows ≡ s.types.now
  pub end : rules.end ≡ s.info.end
  pub holes : rules.holes ≡ []
  pub found : checked_items (s.info.end - first_place s.info) rules (words_in s) (first_place s.info) ≡ Ok here

-- what is left of them from a place on, in which the same reference is the first bad one
pub record IsLeft (s : Scan) (rules : Rules) (starts : List Range) (here : List Item) (place : ℕ) : Type 0 where
  pub fuel : ℕ
  pub enough : s.info.end ≤ place + fuel
  pub left : List Item
  pub found : checked_items fuel rules (words_in s) place ≡ Ok left
  pub same : (items : List Item) → AreStarts starts items
      → first_failed (map (reference_test items) (references_in s.bytes.now s.types.now s.info s.at left))
      ≡ first_failed (map (reference_test items) (references_in s.bytes.now s.types.now s.info s.at here))
