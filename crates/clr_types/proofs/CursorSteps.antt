-- Steps of an iterator over offsets.
use Rattle.std.proofs.Common.{◌≡◌, ℕ, zero, suc, ◌+◌, ◌-◌, ◌<◌, List, [], ◌∷◌, ◌++◌, map, refl, ap, arith}
use Rattle.std.specs.List.{flat_map}
use Rattle.clr_types.specs.Descriptors.{offsets_from, run_offsets, moved, repeated}
use Rattle.clr_types.specs.declared.descriptors.Series.{Series}

-- no series come again as none
pub repeated_none : (shift stride n : ℕ) → repeated shift stride n [] ≡ []
repeated_none shift stride zero = refl
repeated_none shift stride (suc n) = repeated_none (shift + stride) stride n

pub none_left : (place left size here shift stride n : ℕ) (series : List Series) → left ≡ 0 → series ≡ []
    → offsets_from place left ++ flat_map (run_offsets size) (map (moved here) series ++ repeated shift stride n series)
    ≡ []
none_left place left size here shift stride n series closed none = rw (closed, none, repeated_none shift stride n) refl

pub first_offset : (place left : ℕ) (rest : List ℕ) → 0 < left
    → offsets_from place left ++ rest ≡ place ∷ (offsets_from (place + 8) (left - 1) ++ rest)
first_offset place zero rest some = absurd (omega arith)
first_offset place (suc left) rest some =
    let one : left ≡ suc left - 1 = omega arith in
    ap (λ (n : ℕ). place ∷ (offsets_from (place + 8) n ++ rest)) one
