-- Digits that stand in front of a text.
use Rattle.std.proofs.Common.{◌≡◌, ℕ, ◌+◌, ◌-◌, ◌*◌, ◌/◌, ◌%◌, ◌<◌, ◌≤◌, ◌^◌, List, ◌∷◌, ◌++◌, append_assoc, decimal}
use Rattle.std.proofs.Common.{refl, arith}
use Rattle.std.proofs.lemmas.Fmt.{decimal_digit, decimal_step}

-- the first digit
pub first_digit : (b : ℕ) (rest : List ℕ) → (48 ≤ b) × (b ≤ 57) → b ∷ rest ≡ decimal (b - 48) ++ rest
first_digit b rest range =
    let low : b - 48 < 10 = omega (arith, range.0, range.1) in
    let back : 48 + (b - 48) ≡ b = omega (arith, range.0) in
    rw (decimal_digit (b - 48) low, back) refl

-- and one more
pub further_digit : (n b : ℕ) (rest : List ℕ) → (48 ≤ b) × (b ≤ 57) → (n ≡ 0 → ⊥) → n < 10 ^ 18
    → decimal n ++ b ∷ rest ≡ decimal (n * 10 + (b - 48)) ++ rest
further_digit n b rest range some small =
    let (least, most) = range in
    let front : (n * 10 + (b - 48)) / 10 ≡ n = omega arith in
    let back : 48 + (n * 10 + (b - 48)) % 10 ≡ b = omega arith in
    rw (decimal_step (n * 10 + (b - 48)) (omega arith) (omega arith), front, back, append_assoc) refl
