-- Ranges of addresses, one for each window at most.
use Rattle.std.specs.Prelude.{◌≡◌, ◌≢◌, ℕ, ◌+◌, ◌-◌, ◌/◌, ◌%◌, ◌<◌, ◌≤◌, ◌==◌, if◌then◌else◌, get_or, length, List, [], ◌∷◌}
use Rattle.std.specs.Prelude.{max, min, sum_by}

-- the window of an address
abbrev pub window : ℕ → ℕ
window a = (a / 65536) % 4096

-- the ranges with one address more: in the range of its window, where that has one
abbrev pub widened : List (ℕ × ℕ) → ℕ → List (ℕ × ℕ)
widened [] a = (a, a) ∷ []
widened (r ∷ rs) a = if window r.0 == window a then (min r.0 a, max r.1 a) ∷ rs else r ∷ widened rs a

-- the range with this number
abbrev pub range_at : List (ℕ × ℕ) → ℕ → ℕ × ℕ
range_at ranges i = get_or ranges i (0, 0)

-- the window has no range
abbrev pub is_free : ℕ → ℕ
is_free number = if number == 0 then 1 else 0

-- The numbers of windows tell their ranges, and there is room for one for each window.
pub record AreNumbered (ranges : List (ℕ × ℕ)) (numbers : List ℕ) (capacity : ℕ) : Type 0 where
  pub windows : length numbers ≡ 4096
  pub own : (i : ℕ) → i < length ranges → get_or numbers (window (range_at ranges i).0) 0 ≡ i + 1
  pub told : (w : ℕ) → w < 4096 → 0 < get_or numbers w 0
      → (get_or numbers w 0 ≤ length ranges) × (window (range_at ranges (get_or numbers w 0 - 1)).0 ≡ w)
  pub free : sum_by is_free numbers + length ranges ≡ 4096
  pub room : 4096 ≤ capacity
