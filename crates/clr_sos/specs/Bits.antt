-- Sets of numbers as bits of words.
use Rattle.std.specs.Prelude.{ℕ, ◌/◌, ◌%◌, Bool, List, get_or, nat_eq}
use Rattle.std.specs.Int.{bit_at}

-- whether a number is in the set
abbrev pub has_bit : List ℕ → ℕ → Bool
has_bit words n = nat_eq (bit_at (get_or words (n / 64) 0) (n % 64)) 1
