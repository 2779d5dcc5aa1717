-- A segment's memory of which only the first words are filled.
use Rattle.std.specs.Prelude.{◌≡◌, ℕ, ◌+◌, ◌-◌, ◌/◌, ◌%◌, ◌^◌, ◌≤◌, List, ◌++◌, drop}
use Rattle.clr_mem.specs.Words.{Memory, words_of, zeros}
use Rattle.clr_types.specs.Segments.{first_place, reserved_end}
use Rattle.clr_types.specs.declared.segment.SegInfo.{SegInfo}

-- i words of the bytes from an offset on, with zeros before and behind them
abbrev pub filled : SegInfo → List ℕ → ℕ → ℕ → Memory
filled s bytes o i = record {
  base = s.base;
  words = zeros 511 ++ (words_of i (drop o bytes) ++ zeros (s.reserved / 8 - 511 - i));
}

-- The words of a segment: those of its memory, which stands in the bytes from an offset on, and zeros before and behind
-- them. The first is the header of the item at the first place.
abbrev pub memory_from : List ℕ → SegInfo → ℕ → Memory
memory_from bytes s o = record {
  base = s.base;
  words = zeros 511
      ++ (words_of ((s.end - first_place s) / 8) (drop o bytes) ++ zeros ((reserved_end s - s.end) / 8 + 1));
}

-- a segment that memory is made for
pub record IsFillable (s : SegInfo) : Type 0 where
  pub base : s.base % 4096 ≡ 0
  pub highest : s.base ≤ 2 ^ 61
  pub reserved : s.reserved % 4096 ≡ 0
  pub most : s.reserved ≤ 1073741824
  pub low : first_place s ≤ s.end
  pub high : s.end ≤ reserved_end s
  pub aligned : s.end % 8 ≡ 0
