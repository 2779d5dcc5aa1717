-- The offsets of references of each form, from its series.
use Rattle.std.proofs.Common.{◌≡◌, ℕ, ◌+◌, ◌*◌, ◌<◌, ◌≤◌, List, [], ◌∷◌, map, length, Bool, true, false, refl, ap, ap₂}
use Rattle.std.proofs.Common.{◌∙◌, arith, pos, ◌-ℤ◌, ◌&&◌, nat_le, if◌then◌else◌}
use Rattle.std.specs.List.{flat_map, AllByRecursion, list_all}
use Rattle.std.proofs.lemmas.Bool.{and_parts, leb-true}
use Rattle.std.proofs.lemmas.List.{append-nil, length-map}
use Rattle.std.proofs.lemmas.Int.{ints}
use Rattle.std.proofs.Math.Nat.{mul_assoc}
use Rattle.clr_types.specs.Types.{Form, class_form, references_form, bytes_form, structs_form, size_of, is_reference}
use Rattle.clr_types.specs.Types.{is_lawful_form, is_pattern_byte}
use Rattle.clr_types.specs.Table.{base_size, element_size}
use Rattle.clr_types.specs.Descriptors.{Run, leading, runs_from, runs_of, series_of_run, series_of, run_offsets, moved}
use Rattle.clr_types.specs.Descriptors.{repeated, reference_offsets}
use Rattle.clr_types.specs.Cursors.{IsInRange}
use Rattle.clr_types.specs.declared.descriptors.Series.{Series}
use Rattle.clr_types.proofs.Offsets.{series_law, run_bytes_is, run_slots_are}

-- where a run ends
record IsWithin (slots : ℕ) (run : Run) : Type 0 where
  some : 0 < run.count
  ends : run.first + run.count ≤ slots

leading-le : (kinds : List Bool) → leading kinds ≤ length kinds
leading-le [] = omega arith
leading-le (true ∷ kinds) = let rest = leading-le kinds in omega arith
leading-le (false ∷ kinds) = omega arith

runs_within : (slots : ℕ) (follows : Bool) (i : ℕ) (kinds : List Bool) → i + length kinds ≤ slots
    → AllByRecursion (IsWithin slots) (runs_from follows i kinds)
runs_within slots follows i [] fits = tt
runs_within slots follows i (false ∷ kinds) fits = runs_within slots false (i + 1) kinds (omega arith)
runs_within slots true i (true ∷ kinds) fits = runs_within slots true (i + 1) kinds (omega arith)
runs_within slots false i (true ∷ kinds) fits = (
  let rest = leading-le kinds in
      record { some = omega arith; ends = omega arith },
  runs_within slots true (i + 1) kinds (omega arith),
)

run_in_range : (offset size : ℕ) (run : Run) → offset ≤ 16 → IsWithin 256 run
    → IsInRange size (series_of_run offset size run)
run_in_range offset size run low within =
    let slots = run_slots_are run.count size in
    let bytes = run_bytes_is (pos (8 * run.count) -ℤ pos size) (8 * run.count) size size (omega (arith, ints))
    (omega arith) in
    let ends = within.ends in
    let some = within.some in
    record { some = omega (arith, slots, some); bytes = omega (arith, bytes, ends); start = omega (arith, ends) }

series_in_range : (offset size : ℕ) (runs : List Run) → offset ≤ 16 → AllByRecursion (IsWithin 256) runs
    → AllByRecursion (IsInRange size) (map (series_of_run offset size) runs)
series_in_range offset size [] low within = tt
series_in_range offset size (run ∷ runs) low within =
    (run_in_range offset size run low within.0, series_in_range offset size runs low within.1)

kinds_in_range : (offset size : ℕ) (kinds : List Bool) → offset ≤ 16 → length kinds ≤ 256
    → AllByRecursion (IsInRange size) (map (series_of_run offset size) (runs_of kinds))
kinds_in_range offset size kinds low few =
    series_in_range offset size (runs_of kinds) low (runs_within 256 false 0 kinds (omega arith))

unmoved : (series : List Series) → map (moved 0) series ≡ series
unmoved [] = refl
unmoved (s ∷ series) =
    let here : moved 0 s ≡ s = ap (λ (n : ℕ). let t : Series = record { start = n; run_less_size = s.run_less_size } in
    t) (let e : 0 + s.start ≡ s.start = omega arith in e) in
    ap₂ (λ (x : Series) (xs : List Series). x ∷ xs) here (unmoved series)

once : (size stride : ℕ) (series : List Series)
    → flat_map (run_offsets size) (repeated 0 stride 1 series) ≡ flat_map (run_offsets size) series
once size stride series = ap (flat_map (run_offsets size)) (append-nil (map (moved 0) series) ∙ unmoved series)

few_of_class : (pattern : List ℕ) (finalizer : Bool) → is_lawful_form (class_form pattern) finalizer ≡ true
    → length pattern ≤ 256
few_of_class pattern finalizer lawful =
    let parts = and_parts (list_all is_pattern_byte pattern) (nat_le (length pattern) 256) lawful in
    leb-true (length pattern) 256 parts.1

few_of_struct : (pattern : List ℕ) (finalizer : Bool) → is_lawful_form (structs_form pattern) finalizer ≡ true
    → length pattern ≤ 64
few_of_struct pattern finalizer lawful =
    let limits = nat_le 1 (length pattern) && nat_le (length pattern) 64 in
    let whole = and_parts (list_all is_pattern_byte pattern && limits) (if finalizer then false else true) lawful in
    let parts = and_parts (list_all is_pattern_byte pattern) limits whole.0 in
    let lengths = and_parts (nat_le 1 (length pattern)) (nat_le (length pattern) 64) parts.1 in
    leb-true (length pattern) 64 lengths.1

struct_total : (form : Form) (pattern : List ℕ) (size : ℕ) → form ≡ structs_form pattern → size ≡ 24 + element_size form
    → size ≡ size_of (structs_form pattern) 1
struct_total form pattern size is sized =
    let total : size ≡ 24 + 8 * length pattern = rw is at sized in
    omega (arith, total)

pub struct_near : (form : Form) (pattern : List ℕ) (len element : ℕ) → form ≡ structs_form pattern
    → element ≡ element_size form → size_of form len ≤ 1073741824 → element * len ≤ 1073741824
struct_near form pattern len element is sized fits =
    let all : size_of (structs_form pattern) len ≤ 1073741824 = rw is at fits in
    let one : element ≡ 8 * length pattern = rw is at sized in
    rw one (omega (arith, mul_assoc 8 (length pattern) len, all))

pub class_in_range : (form : Form) (finalizer : Bool) (pattern : List ℕ) (size : ℕ) → form ≡ class_form pattern
    → is_lawful_form form finalizer ≡ true → size ≡ base_size form → AllByRecursion (IsInRange size) (series_of form)
class_in_range form finalizer pattern size is lawful sized =
    let few = few_of_class pattern finalizer (rw is at lawful) in
    let count = length-map pattern is_reference in
    rw (sized, is) (kinds_in_range 8 (base_size (class_form pattern)) (map is_reference pattern) (omega arith)
    (omega (arith, few, count)))

pub class_offsets : (form : Form) (pattern : List ℕ) (len size : ℕ) → form ≡ class_form pattern → size ≡ base_size form
    → flat_map (run_offsets size) (repeated 0 0 1 (series_of form)) ≡ reference_offsets form len
class_offsets form pattern len size is sized =
    rw (sized, is) (once (base_size (class_form pattern)) 0 (series_of (class_form pattern))
    ∙ series_law (class_form pattern) len)

pub references_in_range : (form : Form) (len size : ℕ) → form ≡ references_form → 0 < len → size ≡ 24 + 8 * len
    → size ≤ 1073741824 → AllByRecursion (IsInRange size) (series_of form)
references_in_range form len size is some sized fits =
    rw is (record { some = omega arith; bytes = omega arith; start = omega arith }, tt)

pub references_offsets : (form : Form) (len size : ℕ) → form ≡ references_form → size ≡ 24 + 8 * len
    → flat_map (run_offsets size) (repeated 0 0 1 (series_of form)) ≡ reference_offsets form len
references_offsets form len size is sized =
    rw (sized, is) (once (24 + 8 * len) 0 (series_of references_form) ∙ series_law references_form len)

pub bytes_offsets : (form : Form) (len : ℕ) → form ≡ bytes_form → [] ≡ reference_offsets form len
bytes_offsets form len is = rw is (series_law bytes_form len)

pub structs_in_range : (form : Form) (finalizer : Bool) (pattern : List ℕ) (size : ℕ) → form ≡ structs_form pattern
    → is_lawful_form form finalizer ≡ true → size ≡ 24 + element_size form
    → AllByRecursion (IsInRange size) (series_of form)
structs_in_range form finalizer pattern size is lawful sized =
    let few = few_of_struct pattern finalizer (rw is at lawful) in
    let count = length-map pattern is_reference in
    let total = struct_total form pattern size is sized in
    rw (total, is, append-nil) (kinds_in_range 16 (size_of (structs_form pattern) 1) (map is_reference pattern)
    (omega arith) (omega (arith, few, count)))

pub structs_offsets : (form : Form) (pattern : List ℕ) (len size stride : ℕ) → form ≡ structs_form pattern
    → size ≡ 24 + element_size form → stride ≡ element_size form
    → flat_map (run_offsets size) (repeated 0 stride len (series_of form)) ≡ reference_offsets form len
structs_offsets form pattern len size stride is sized steps =
    let total = struct_total form pattern size is sized in
    rw (steps, total, is) (series_law (structs_form pattern) len)
