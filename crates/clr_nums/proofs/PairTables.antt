-- The tables have the two digits of each number.
use Rattle.std.proofs.Common.{◌≡◌, ℕ, ◌+◌, ◌*◌, ◌<◌, true, List, [], ◌∷◌, get_or, refl}
use Rattle.std.specs.Prelude.{bytes_eq}
use Rattle.std.proofs.lemmas.Bool.{agree_below_at}
use Rattle.std.proofs.lemmas.Slice.Eq.{bytes_eq-Decides}
use Rattle.clr_nums.specs.Numbers.{decimal_pair, hex_pair}
use Rattle.clr_nums.specs.declared.write.TheConstants.{DECIMAL_PAIRS, HEX_PAIRS}

-- two bytes of a list
abbrev pair_from : List ℕ → ℕ → List ℕ
pair_from bytes from = get_or bytes from 0 ∷ get_or bytes (from + 1) 0 ∷ []

-- each number below 100 has its two digits at twice its place
pub decimal_pair-at : (n : ℕ) → n < 100 → pair_from DECIMAL_PAIRS (2 * n) ≡ decimal_pair n
decimal_pair-at n small =
    let is_right = λ (m : ℕ). bytes_eq (pair_from DECIMAL_PAIRS (2 * m)) (decimal_pair m) in
    (bytes_eq-Decides _ _).0 (agree_below_at is_right (λ m. true) 100 n refl small)

-- and so has each byte
pub hex_pair-at : (n : ℕ) → n < 256 → pair_from HEX_PAIRS (2 * n) ≡ hex_pair n
hex_pair-at n small =
    let is_right = λ (m : ℕ). bytes_eq (pair_from HEX_PAIRS (2 * m)) (hex_pair m) in
    (bytes_eq-Decides _ _).0 (agree_below_at is_right (λ m. true) 256 n refl small)
