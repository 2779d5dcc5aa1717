-- Where a scan of a segment's items has come to.
use Rattle.std.specs.Prelude.{◌≡◌, ℕ, ◌+◌, ◌%◌, ◌≤◌, List}
use Rattle.clr_types.specs.Types.{TypeRow}
use Rattle.clr_heap.specs.View.{first_of, HeapView, holes_of, last_of}
use Rattle.clr_sos.specs.CheckedCells.{checked_items, fault_of}
use Rattle.clr_sos.specs.CellScans.{IsNext}
use Rattle.clr_sos.specs.Faults.{rules_of, words_in}

-- the first fault of segment k is that from p on, and the next hole from there is known
pub record IsScanning (rows : List TypeRow) (large : ℕ) (h : HeapView) (k p next : ℕ) : Type 0 where
  pub aligned : p % 8 ≡ 0
  pub low : first_of h k ≤ p
  pub high : p ≤ last_of h k
  pub following : IsNext (holes_of h k) p next
  pub fuel : ℕ
  pub enough : last_of h k ≤ p + fuel
  pub same : fault_of (checked_items fuel (rules_of rows large h k) (words_in h) p)
      ≡ fault_of (checked_items (last_of h k) (rules_of rows large h k) (words_in h) (first_of h k))
