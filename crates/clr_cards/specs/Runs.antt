-- What an iterator over the stretches of set cards has left.
use Rattle.std.specs.Prelude.{◌≡◌, ℕ, suc, ◌+◌, ◌*◌, ◌^◌, ◌<◌, ◌≤◌, max, List, [], ◌∷◌, length, slice_index, ◌==◌}
use Rattle.std.specs.Prelude.{if◌then◌else◌, Option, Some, None}

-- The stretches in [low, high) of the cards from number i on, of which the last has the address below high. Where one
-- is open, it began at the given address.
abbrev pub runs_in : ℕ → ℕ → Option ℕ → ℕ → List ℕ → List (ℕ × ℕ)
runs_in low high None i [] = []
runs_in low high (Some start) i [] = (start, high) ∷ []
runs_in low high None i (x ∷ xs) =
    if x == 0 then runs_in low high None (suc i) xs else runs_in low high (Some (max low (2048 * i))) (suc i) xs
runs_in low high (Some start) i (x ∷ xs) =
    if x == 0 then (start, 2048 * i) ∷ runs_in low high None (suc i) xs else runs_in low high (Some start) (suc i) xs

-- the cards from one place up to another are clear
abbrev pub AreClear : List ℕ → ℕ → ℕ → Type 0
AreClear cards from to = (j : ℕ) → from ≤ j → j < to → slice_index cards j ≡ 0

-- and these are set
abbrev pub AreSet : List ℕ → ℕ → ℕ → Type 0
AreSet cards from to = (j : ℕ) → from ≤ j → j < to → 0 < slice_index cards j

-- where a stretch in [low, high) ends whose cards go up to place `to` of these, the first of which has number `first`
abbrev pub end_at : List ℕ → ℕ → ℕ → ℕ → ℕ
end_at cards first high to = if to == length cards then high else 2048 * (first + to)

-- a scan stands at one of the cards from number `first` on or at their end, and no card's address passes 64 bits
pub record IsScan (cards : List ℕ) (at first : ℕ) : Type 0 where
  pub within : at ≤ length cards
  pub fits : first + length cards < 2 ^ 53
