-- Where the segments of an image stand in its bytes.
use Rattle.std.specs.Prelude.{◌≡◌, ℕ, ◌+◌, ◌-◌, Bool, if◌then◌else◌, List, [], ◌∷◌, length, None, Option, Some, sum_by}
use Rattle.clr_types.specs.Segments.{first_place}
use Rattle.clr_types.specs.Types.{TypeRow}
use Rattle.clr_types.specs.declared.segment.SegInfo.{SegInfo}
use Rattle.clr_fields.specs.TypeFields.{form_pattern}

-- how many bytes a type takes: four words, its name and its pattern
abbrev pub type_size : TypeRow → ℕ
type_size row = 32 + length row.name + length (form_pattern row.form)

abbrev pub row_size : Option TypeRow → ℕ
row_size None = 0
row_size (Some row) = type_size row

abbrev pub types_size : List TypeRow → ℕ
types_size rows = sum_by type_size rows

-- where the first segment stands: behind the head, the types with their count, and the count of segments
abbrev pub segments_from : Bool → List TypeRow → ℕ
segments_from first rows = (if first then 24 else 40) + types_size rows + 8

-- Segments stand one behind the other, the first at an offset, each with six words in front of its memory; these are
-- the offsets of the memories.
abbrev pub AreHeadsAt : ℕ → List SegInfo → List ℕ → Type 0
AreHeadsAt at [] [] = Unit {0}
AreHeadsAt at [] (o ∷ os) = ⊥
AreHeadsAt at (s ∷ ss) [] = ⊥
AreHeadsAt at (s ∷ ss) (o ∷ os) = (o ≡ at + 48) × AreHeadsAt (o + (s.end - first_place s)) ss os
