-- How many plugs a brick has at most.
use Rattle.std.proofs.Common.{ℕ, ◌+◌, ◌*◌, ◌<◌, ◌≤◌, max, List, [], ◌∷◌, length, arith}
use Rattle.clr_types.specs.Rising.{first, IsIn, later}
use Rattle.clr_plugs.specs.Plans.{AreSpaced}

-- spaced places below `high` are few
pub spaced_few : (low high : ℕ) (xs : List ℕ) → AreSpaced low xs → ((x : ℕ) → IsIn x xs → x < high)
    → low + 24 * length xs ≤ max low (high + 23)
spaced_few low high [] s below = omega arith
spaced_few low high (x ∷ xs) s below =
    let h = s.0 in
    let b = below x first in
    let r = spaced_few (x + 24) high xs s.1 (λ y i. below y (later i)) in
    omega (arith, h, b, r)
