-- The offsets of references, by their slots and by their runs.
use Rattle.std.proofs.Common.{◌≡◌, ℕ, zero, suc, ◌+◌, ◌-◌, ◌*◌, ◌/◌, ◌%◌, ◌<◌, ◌≤◌, List, [], ◌∷◌, ◌++◌, map, filter}
use Rattle.std.proofs.Common.{length, replicate, Bool, true, false, refl, ap, ap₂, sym, ◌∙◌, arith, add-one, pos}
use Rattle.std.proofs.Common.{negsuc, ℤ, ◌+ℤ◌, ◌-ℤ◌}
use Rattle.std.specs.List.{flat_map, repeat, AllByRecursion}
use Rattle.std.proofs.lemmas.Grind.{flat_map-append}
use Rattle.std.proofs.lemmas.Int.{ints}
use Rattle.std.proofs.lemmas.List.{map-append, append-nil, length-map, length-replicate}
use Rattle.clr_types.proofs.SlotKinds.{struct_slots}
use Rattle.clr_types.specs.Rising.{IsRisingBy}
use Rattle.clr_types.specs.Types.{Form, class_form, references_form, bytes_form, structs_form, size_of, slot_offset}
use Rattle.clr_types.specs.Types.{slots_from, is_reference}
use Rattle.clr_types.specs.Descriptors.{Run, leading, runs_from, runs_of, series_of_run, series_of, offsets_from}
use Rattle.clr_types.specs.Descriptors.{run_bytes, run_offsets, moved, repeated, spelled, reference_offsets, StandApart}
use Rattle.clr_types.specs.declared.shape.Slot.{Slot}
use Rattle.clr_types.specs.declared.descriptors.Series.{Series}

-- the places of the references, where slot after slot stands a word apart from this place on
abbrev pub refs_at : ℕ → List Bool → List ℕ
refs_at place [] = []
refs_at place (true ∷ kinds) = place ∷ refs_at (place + 8) kinds
refs_at place (false ∷ kinds) = refs_at (place + 8) kinds

slot_refs : (form : Form) → ((i : ℕ) → slot_offset form (i + 1) ≡ slot_offset form i + 8) → (i : ℕ) (kinds : List Bool)
    → map (λ (slot : Slot). slot.offset) (filter (λ (slot : Slot). slot.reference) (slots_from form i kinds))
    ≡ refs_at (slot_offset form i) kinds
slot_refs form apart i [] = refl
slot_refs form apart i (true ∷ kinds) =
    ap (λ (ns : List ℕ). slot_offset form i ∷ ns)
    (slot_refs form apart (i + 1) kinds ∙ ap (λ (n : ℕ). refs_at n kinds) (apart i))
slot_refs form apart i (false ∷ kinds) = slot_refs form apart (i + 1) kinds ∙ ap (λ (n : ℕ). refs_at n kinds) (apart i)

byte_refs : (i n : ℕ) → map (λ (slot : Slot). slot.offset)
    (filter (λ (slot : Slot). slot.reference) (slots_from bytes_form i (replicate n false))) ≡ []
byte_refs i zero = refl
byte_refs i (suc n) = byte_refs (i + 1) n

pub run_bytes_is : (z : ℤ) (a b total : ℕ) → z +ℤ pos b ≡ pos a → b ≤ a + total → run_bytes z total ≡ a + total - b
run_bytes_is (pos n) a b total same fits = omega (arith, ints)
run_bytes_is (negsuc n) a b total same fits = omega (arith, ints)

pub run_slots_are : (count size : ℕ) → run_bytes (pos (8 * count) -ℤ pos size) size / 8 ≡ count
run_slots_are count size =
    let bytes = run_bytes_is (pos (8 * count) -ℤ pos size) (8 * count) size size (omega (arith, ints)) (omega arith) in
    omega (arith, bytes)

run_refs : (offset size : ℕ) (i : ℕ) (kinds : List Bool)
    → (flat_map (run_offsets size) (map (series_of_run offset size) (runs_from false i kinds))
    ≡ refs_at (offset + 8 * i) kinds)
    × (offsets_from (offset + 8 * i) (leading kinds)
    ++ flat_map (run_offsets size) (map (series_of_run offset size) (runs_from true i kinds))
    ≡ refs_at (offset + 8 * i) kinds)
run_refs offset size i [] = (refl, refl)
run_refs offset size i (false ∷ kinds) =
    let next : offset + 8 * (i + 1) ≡ offset + 8 * i + 8 = omega arith in
    let rest = (run_refs offset size (i + 1) kinds).0 ∙ ap (λ (n : ℕ). refs_at n kinds) next in
    (rest, rest)
run_refs offset size i (true ∷ kinds) =
    let next : offset + 8 * (i + 1) ≡ offset + 8 * i + 8 = omega arith in
    let rest = rw next at (run_refs offset size (i + 1) kinds).1 in
    let whole = ap (λ (ns : List ℕ). (offset + 8 * i) ∷ ns) rest in
    (rw (run_slots_are (leading kinds + 1) size, add-one (leading kinds)) whole, rw (add-one (leading kinds)) whole)

pub class_refs : (offset size : ℕ) (kinds : List Bool)
    → flat_map (run_offsets size) (map (series_of_run offset size) (runs_of kinds)) ≡ refs_at offset kinds
class_refs offset size kinds = (run_refs offset size 0 kinds).0
    ∙ ap (λ (n : ℕ). refs_at n kinds) (let e : offset + 8 * 0 ≡ offset = omega arith in e)

all_refs : (place n : ℕ) → offsets_from place n ≡ refs_at place (replicate n true)
all_refs place zero = refl
all_refs place (suc n) = ap (λ (ns : List ℕ). place ∷ ns) (all_refs (place + 8) n)

refs_append : (place : ℕ) (xs ys : List Bool)
    → refs_at place (xs ++ ys) ≡ refs_at place xs ++ refs_at (place + 8 * length xs) ys
refs_append place [] ys = ap (λ (n : ℕ). refs_at n ys) (let e : place ≡ place + 8 * 0 = omega arith in e)
refs_append place (true ∷ xs) ys =
    ap (λ (ns : List ℕ). place ∷ ns)
    (refs_append (place + 8) xs ys ∙ ap (λ (n : ℕ). refs_at (place + 8) xs ++ refs_at n ys)
    (let e : place + 8 + 8 * length xs ≡ place + 8 * suc (length xs) = omega arith in e))
refs_append place (false ∷ xs) ys = refs_append (place + 8) xs ys
    ∙ ap (λ (n : ℕ). refs_at (place + 8) xs ++ refs_at n ys)
    (let e : place + 8 + 8 * length xs ≡ place + 8 * suc (length xs) = omega arith in e)

offsets_moved : (shift place n : ℕ) → offsets_from (shift + place) n ≡ map (λ x. shift + x) (offsets_from place n)
offsets_moved shift place zero = refl
offsets_moved shift place (suc n) =
    let next : shift + place + 8 ≡ shift + (place + 8) = omega arith in
    ap (λ (ns : List ℕ). (shift + place) ∷ ns)
    (ap (λ (m : ℕ). offsets_from m n) next ∙ offsets_moved shift (place + 8) n)

refs_moved : (shift place : ℕ) (kinds : List Bool)
    → refs_at (shift + place) kinds ≡ map (λ x. shift + x) (refs_at place kinds)
refs_moved shift place [] = refl
refs_moved shift place (true ∷ kinds) =
    let next : shift + place + 8 ≡ shift + (place + 8) = omega arith in
    ap (λ (ns : List ℕ). (shift + place) ∷ ns)
    (ap (λ (m : ℕ). refs_at m kinds) next ∙ refs_moved shift (place + 8) kinds)
refs_moved shift place (false ∷ kinds) =
    let next : shift + place + 8 ≡ shift + (place + 8) = omega arith in
    ap (λ (m : ℕ). refs_at m kinds) next ∙ refs_moved shift (place + 8) kinds

series_moved : (shift size : ℕ) (series : List Series)
    → flat_map (run_offsets size) (map (moved shift) series) ≡ map (λ x. shift + x) (flat_map (run_offsets size) series)
series_moved shift size [] = refl
series_moved shift size (s ∷ series) =
    let slots = run_bytes s.run_less_size size / 8 in
    ap₂ (λ (xs ys : List ℕ). xs ++ ys) (offsets_moved shift s.start slots) (series_moved shift size series)
    ∙ sym (map-append (λ x. shift + x) (offsets_from s.start slots) (flat_map (run_offsets size) series))

pub repeated_refs : (size place : ℕ) (series : List Series) (kinds : List Bool)
    → flat_map (run_offsets size) series ≡ refs_at place kinds → (shift stride n : ℕ) → stride ≡ 8 * length kinds
    → flat_map (run_offsets size) (repeated shift stride n series) ≡ refs_at (shift + place) (repeat n kinds)
repeated_refs size place series kinds same shift stride zero steps = refl
repeated_refs size place series kinds same shift stride (suc n) steps =
    let later = repeated_refs size place series kinds same (shift + stride) stride n steps in
    let next : shift + stride + place ≡ shift + place + 8 * length kinds = omega arith in
    let here = series_moved shift size series ∙ ap (map (λ x. shift + x)) same ∙ sym (refs_moved shift place kinds) in
    flat_map-append (run_offsets size) (map (moved shift) series) (repeated (shift + stride) stride n series)
    ∙ ap₂ (λ (xs ys : List ℕ). xs ++ ys) here (later ∙ ap (λ (m : ℕ). refs_at m (repeat n kinds)) next)
    ∙ sym (refs_append (shift + place) kinds (repeat n kinds))

-- what series spell, and what the slots say
pub series_law : (form : Form) (len : ℕ) → spelled form len (series_of form) ≡ reference_offsets form len
series_law (class_form pattern) len = class_refs 8 (size_of (class_form pattern) len) (map is_reference pattern)
    ∙ sym (slot_refs (class_form pattern) (λ i. omega arith) 0 (map is_reference pattern))
series_law references_form len =
    let slots : (24 + 8 * len - 24) / 8 ≡ len = omega arith in
    rw append-nil (ap (offsets_from 16) slots ∙ all_refs 16 len
    ∙ sym (slot_refs references_form (λ i. omega arith) 0 (replicate len true)))
series_law bytes_form len = sym (byte_refs 0 len)
series_law (structs_form pattern) len =
    let kinds = map is_reference pattern in
    let size = size_of (structs_form pattern) 1 in
    let one : flat_map (run_offsets size) (series_of (structs_form pattern))
    ≡ refs_at 16 kinds = rw append-nil (class_refs 16 size kinds) in
    repeated_refs size 16 (series_of (structs_form pattern)) kinds one 0 (8 * length pattern) len
    (let same = length-map pattern is_reference in omega arith)
    ∙ sym (slot_refs (structs_form pattern) (λ i. omega arith) 0 (repeat len kinds))

refs_above : (low place : ℕ) (kinds : List Bool) → low < place → AllByRecursion (λ n. low < n) (refs_at place kinds)
refs_above low place [] below = tt
refs_above low place (true ∷ kinds) below = (below, refs_above low (place + 8) kinds (omega arith))
refs_above low place (false ∷ kinds) below = refs_above low (place + 8) kinds (omega arith)

refs_rise : (place : ℕ) (kinds : List Bool) → IsRisingBy (λ n. n) (refs_at place kinds)
refs_rise place [] = tt
refs_rise place (true ∷ kinds) = (refs_above place (place + 8) kinds (omega arith), refs_rise (place + 8) kinds)
refs_rise place (false ∷ kinds) = refs_rise (place + 8) kinds

pub rising_offsets_law : (form : Form) (len : ℕ) → IsRisingBy (λ n. n) (reference_offsets form len)
rising_offsets_law (class_form pattern) len =
    rw (slot_refs (class_form pattern) (λ i. omega arith) 0 (map is_reference pattern))
    (refs_rise 8 (map is_reference pattern))
rising_offsets_law references_form len =
    rw (slot_refs references_form (λ i. omega arith) 0 (replicate len true)) (refs_rise 16 (replicate len true))
rising_offsets_law bytes_form len = rw (byte_refs 0 len) tt
rising_offsets_law (structs_form pattern) len =
    rw (slot_refs (structs_form pattern) (λ i. omega arith) 0 (repeat len (map is_reference pattern)))
    (refs_rise 16 (repeat len (map is_reference pattern)))

refs_inside : (size place : ℕ) (kinds : List Bool) → 8 ≤ place → place % 8 ≡ 0 → place + 8 * length kinds + 8 ≤ size
    → AllByRecursion (λ n. (8 ≤ n) × (n + 16 ≤ size) × (n % 8 ≡ 0)) (refs_at place kinds)
refs_inside size place [] low aligned high = tt
refs_inside size place (true ∷ kinds) low aligned high =
    ((low, omega arith, aligned), refs_inside size (place + 8) kinds (omega arith) (omega arith) (omega arith))
refs_inside size place (false ∷ kinds) low aligned high =
    refs_inside size (place + 8) kinds (omega arith) (omega arith) (omega arith)

pub inside_law : (form : Form) (len : ℕ)
    → AllByRecursion (λ offset. (8 ≤ offset) × (offset + 16 ≤ size_of form len) × (offset % 8 ≡ 0))
    (reference_offsets form len)
inside_law (class_form pattern) len =
    let kinds = map is_reference pattern in
    let count = length-map pattern is_reference in
    rw (slot_refs (class_form pattern) (λ i. omega arith) 0 kinds)
    (refs_inside (size_of (class_form pattern) len) 8 kinds (omega arith) refl (omega (arith, count)))
inside_law references_form len =
    let count = length-replicate len true in
    rw (slot_refs references_form (λ i. omega arith) 0 (replicate len true))
    (refs_inside (size_of references_form len) 16 (replicate len true) (omega arith) refl (omega (arith, count)))
inside_law bytes_form len = rw (byte_refs 0 len) tt
inside_law (structs_form pattern) len =
    let kinds = repeat len (map is_reference pattern) in
    let count = struct_slots pattern len in
    rw (slot_refs (structs_form pattern) (λ i. omega arith) 0 kinds)
    (refs_inside (size_of (structs_form pattern) len) 16 kinds (omega arith) refl (omega (arith, count)))

-- runs stand apart, also behind a run that ends before them
record RunsApart (i : ℕ) (kinds : List Bool) : Type 0 where
  alone : StandApart (runs_from false i kinds)
  behind : (run : Run) → 0 < run.count → run.first + run.count < i → StandApart (run ∷ runs_from false i kinds)
  going_on : (run : Run) → 0 < run.count → run.first + run.count ≡ i + leading kinds
      → StandApart (run ∷ runs_from true i kinds)

runs_apart : (i : ℕ) (kinds : List Bool) → RunsApart i kinds
runs_apart i [] = record { alone = tt; behind = λ run some ends. some; going_on = λ run some ends. some }
runs_apart i (false ∷ kinds) =
    let rest = runs_apart (i + 1) kinds in
    record {
      alone = rest.alone;
      behind = λ run some ends. rest.behind run some (omega arith);
      going_on = λ run some ends. rest.behind run some (omega arith);
    }
runs_apart i (true ∷ kinds) =
    let rest = runs_apart (i + 1) kinds in
    let new : Run = record { first = i; count = leading kinds + 1 } in
    let from_here = rest.going_on new (omega arith) (omega arith) in
    record {
      alone = from_here;
      behind = λ run some ends. (some, ends, from_here);
      going_on = λ run some ends. rest.going_on run some (omega arith);
    }

pub longest_runs_law : (kinds : List Bool) → StandApart (runs_of kinds)
longest_runs_law kinds = (runs_apart 0 kinds).alone
