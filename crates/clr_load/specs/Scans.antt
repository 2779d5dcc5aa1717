-- A segment whose memory is in bytes, as the checks see it.
use Rattle.std.specs.Prelude.{◌≡◌, ℕ, ◌+◌, ◌-◌, ◌*◌, ◌%◌, ◌^◌, ◌<◌, ◌≤◌, length, is_some, true}
use Rattle.clr_types.specs.Segments.{first_place}
use Rattle.clr_types.specs.declared.item.Item.{Item}
use Rattle.clr_sos.specs.CheckedCells.{Rules, Words}
use Rattle.clr_format.specs.HeapFields.{rules_with, words_from}
use Rattle.clr_load.specs.declared.cells.Scan.{Scan}

abbrev pub rules_in : Scan → Rules
rules_in s = rules_with s.large s.types.now s.info s.start1 s.start0

abbrev pub words_in : Scan → Words
words_in s = words_from s.bytes.now s.info s.at

-- a segment and an offset of its memory
pub record IsScan (s : Scan) : Type 0 where
  pub base : s.info.base % 4096 ≡ 0
  pub lowest : 0x10000000 ≤ s.info.base
  pub highest : s.info.base ≤ 2 ^ 61
  pub low : first_place s.info ≤ s.info.end
  pub high : s.info.end ≤ s.info.base + 1073741824
  pub aligned : s.info.end % 8 ≡ 0
  pub within : s.at ≤ length s.bytes.now
  pub small : length s.bytes.now < 2 ^ 63

-- a place below the segment's end
pub record IsIn (s : Scan) (place : ℕ) : Type 0 where
  pub aligned : place % 8 ≡ 0
  pub low : first_place s.info ≤ place
  pub high : place < s.info.end

-- an item that was found at a place
pub record HasRoom (s : Scan) (place : ℕ) (i : Item) : Type 0 where
  pub at : i.place ≡ place
  pub least : 24 ≤ i.size
  pub whole : i.size % 8 ≡ 0
  pub inside : place + i.size ≤ s.info.end
  pub known : i.type_id.0 ≤ length s.types.now
  pub there : s.at + (place + i.size - first_place s.info) ≤ length s.bytes.now

-- the n words from an address on are there
pub record AreThere (s : Scan) (a n : ℕ) : Type 0 where
  pub are : (i : ℕ) → i < n → is_some (words_in s (a + 8 * i)) ≡ true
