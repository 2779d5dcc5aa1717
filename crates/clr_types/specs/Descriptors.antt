-- The references of a type as runs of slots, and the offsets that runs spell.
use Rattle.std.specs.Prelude.{◌≡◌, ℕ, zero, suc, ◌+◌, ◌-◌, ◌*◌, ◌/◌, ◌<◌, ◌≤◌, ◌%◌, List, [], ◌∷◌, ◌++◌, map, filter}
use Rattle.std.specs.Prelude.{length, Bool, true, false, pos, negsuc, ◌-ℤ◌, ℤ}
use Rattle.std.specs.List.{flat_map, AllByRecursion}
use Rattle.clr_types.specs.Rising.{IsRisingBy}
use Rattle.clr_types.specs.Types.{Form, class_form, references_form, bytes_form, structs_form, size_of, slot_kinds}
use Rattle.clr_types.specs.Types.{slot_offset, slots_of}
use Rattle.clr_types.specs.declared.shape.Slot.{Slot}
use Rattle.clr_types.specs.declared.descriptors.Series.{Series}

-- slots one after the other: the number of the first, and how many there are
pub record Run : Type 0 where
  pub first : ℕ
  pub count : ℕ

-- how many references stand at the front
abbrev pub leading : List Bool → ℕ
leading [] = 0
leading (true ∷ kinds) = leading kinds + 1
leading (false ∷ kinds) = 0

-- The longest runs of references by rising number, for the slots from slot i on. A run begins at each reference that
-- doesn't
-- follow a reference, and goes on as long as references follow.
abbrev pub runs_from : Bool → ℕ → List Bool → List Run
runs_from follows i [] = []
runs_from follows i (false ∷ kinds) = runs_from false (i + 1) kinds
runs_from true i (true ∷ kinds) = runs_from true (i + 1) kinds
runs_from false i (true ∷ kinds) = record { first = i; count = leading kinds + 1 } ∷ runs_from true (i + 1) kinds

abbrev pub runs_of : List Bool → List Run
runs_of kinds = runs_from false 0 kinds

-- a run as a series, where slot 0 has this offset and objects have this size
abbrev pub series_of_run : ℕ → ℕ → Run → Series
series_of_run offset size run =
    record { start = offset + 8 * run.first; run_less_size = pos (8 * run.count) -ℤ pos size }

-- the series of a form, an array's by what holds for one element
abbrev pub series_of : Form → List Series
series_of form = map (series_of_run (slot_offset form 0) (size_of form 1)) (runs_of (slot_kinds form 1))

-- a number of words from a place on
abbrev pub offsets_from : ℕ → ℕ → List ℕ
offsets_from place zero = []
offsets_from place (suc count) = place ∷ offsets_from (place + 8) count

-- the bytes of a run, of which the size is taken away
abbrev pub run_bytes : ℤ → ℕ → ℕ
run_bytes (pos more) size = size + more
run_bytes (negsuc less) size = size - (less + 1)

-- the offsets that a series spells in an object of this size
abbrev pub run_offsets : ℕ → Series → List ℕ
run_offsets size series = offsets_from series.start (run_bytes series.run_less_size size / 8)

-- a series that begins so many bytes later
abbrev pub moved : ℕ → Series → Series
moved shift series = record { start = shift + series.start; run_less_size = series.run_less_size }

-- the series again and again: from this shift on, so many bytes apart, so many times
abbrev pub repeated : ℕ → ℕ → ℕ → List Series → List Series
repeated shift stride zero series = []
repeated shift stride (suc count) series = map (moved shift) series ++ repeated (shift + stride) stride count series

-- the offsets that series spell: in an array of structs once in each element, with the size of an array of one element
abbrev pub spelled : Form → ℕ → List Series → List ℕ
spelled (class_form pattern) len series = flat_map (run_offsets (size_of (class_form pattern) len)) series
spelled references_form len series = flat_map (run_offsets (size_of references_form len)) series
spelled bytes_form len series = flat_map (run_offsets (size_of bytes_form len)) series
spelled (structs_form pattern) len series =
    flat_map (run_offsets (size_of (structs_form pattern) 1)) (repeated 0 (8 * length pattern) len series)

-- the offsets of the slots that hold references
abbrev pub reference_offsets : Form → ℕ → List ℕ
reference_offsets form len = map (λ (slot : Slot). slot.offset)
    (filter (λ (slot : Slot). slot.reference) (slots_of form len))

-- the series of a form spell the offsets of the references
abbrev pub SeriesLaw : Type 0
SeriesLaw = (form : Form) (len : ℕ) → spelled form len (series_of form) ≡ reference_offsets form len

-- the offsets of the references rise
abbrev pub RisingOffsetsLaw : Type 0
RisingOffsetsLaw = (form : Form) (len : ℕ) → IsRisingBy (λ n. n) (reference_offsets form len)

-- a reference stands behind the method table word, ends a word before the object's last byte (the header word of the
-- object
-- that may follow lies in its place), and is aligned
abbrev pub InsideLaw : Type 0
InsideLaw = (form : Form) (len : ℕ)
    → AllByRecursion (λ offset. (8 ≤ offset) × (offset + 16 ≤ size_of form len) × (offset % 8 ≡ 0))
    (reference_offsets form len)

-- each run has a slot, and between a run and the next there is a slot that is none of theirs
abbrev pub StandApart : List Run → Type 0
StandApart [] = Unit {0}
StandApart (run ∷ []) = 0 < run.count
StandApart (run ∷ next ∷ runs) = (0 < run.count) × (run.first + run.count < next.first) × StandApart (next ∷ runs)

-- no run could be longer, or two of them one
abbrev pub LongestRunsLaw : Type 0
LongestRunsLaw = (kinds : List Bool) → StandApart (runs_of kinds)
