-- Sets of numbers of which the lowest one is at hand.
use Rattle.std.specs.Prelude.{◌≡◌, ◌⊎◌, ℕ, ◌*◌, ◌/◌, ◌≤◌, true, List, length}
use Rattle.clr_bgmark.specs.Bits.{has_bit}

-- the set, as bits, and a number such that none of the set is lower
pub record PendingView : Type 0 where
  pub numbers : List ℕ
  pub lowest : ℕ

-- of each 64 numbers it is known whether any is in the set
abbrev pub AreGrouped : List ℕ → List ℕ → Type 0
AreGrouped numbers groups = (n : ℕ) → has_bit numbers n ≡ true → has_bit groups (n / 64) ≡ true

-- Of each 64 numbers it is known whether any is in the set, no number is lower than the lowest one, and the one that was
-- put in last is there, where there is one.
pub record IsPending (numbers groups : List ℕ) (lowest newest : ℕ) : Type 0 where
  pub grouped : AreGrouped numbers groups
  pub above : (n : ℕ) → has_bit numbers n ≡ true → lowest ≤ n
  pub there : (newest ≡ 18446744073709551615) ⊎ (has_bit numbers newest ≡ true)
  pub room : length numbers ≤ 64 * length groups
