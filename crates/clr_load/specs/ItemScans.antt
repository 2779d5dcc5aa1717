-- Where a scan of the items in a segment's memory has come to.
use Rattle.std.specs.Prelude.{◌≡◌, ℕ, ◌+◌, ◌-◌, ◌%◌, ◌<◌, ◌≤◌, ◌||◌, length, List, ◌++◌, Result, Ok, Err}
use Rattle.clr_types.specs.Segments.{first_place}
use Rattle.clr_types.specs.declared.item.Item.{Item}
use Rattle.clr_sos.specs.CheckedCells.{checked_items}
use Rattle.clr_sos.specs.Faults.{stands}
use Rattle.clr_load.specs.Scans.{rules_in, words_in}
use Rattle.clr_load.specs.Starts.{has_place, range_end}
use Rattle.clr_load.specs.declared.cells.Scan.{Scan}
use Rattle.clr_load.specs.declared.starts.Range.{Range}

-- the items of a segment, or its first fault
unfoldable pub items_of : Scan → Result (List Item) ℕ
items_of s = checked_items (s.info.end - first_place s.info) (rules_in s) (words_in s) (first_place s.info)

-- items before what was found
abbrev pub after_items : List Item → Result (List Item) ℕ → Result (List Item) ℕ
after_items done (Ok items) = Ok (done ++ items)
after_items done (Err a) = Err a

-- a range has a bit for each place of the segment whose byte is there, and few more
pub record IsRangeOf (s : Scan) (r : Range) : Type 0 where
  pub first : r.first ≡ first_place s.info
  pub room : (x : ℕ) → x < s.info.end → s.at + (x - first_place s.info) < length s.bytes.now → x < range_end r
  pub short : range_end r ≤ s.info.end + 512

-- some items are found up to a place, and the places of the objects among them are marked
pub record IsItemScan (s : Scan) (place : ℕ) (old now : Range) : Type 0 where
  pub aligned : place % 8 ≡ 0
  pub low : first_place s.info ≤ place
  pub high : place ≤ s.info.end
  pub there : s.at + (place - first_place s.info) ≤ length s.bytes.now
  pub range : IsRangeOf s now
  pub fuel : ℕ
  pub enough : s.info.end ≤ place + fuel
  pub done : List Item
  pub same : items_of s ≡ after_items done (checked_items fuel (rules_in s) (words_in s) place)
  pub marked : (x : ℕ) → has_place now x ≡ (has_place old x || stands done x)
