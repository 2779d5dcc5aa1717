-- What is covered while a segment is taken above all others.
use Rattle.std.specs.Prelude.{ℕ, ◌+◌, ◌<◌, ◌≤◌, List}
use Rattle.std.specs.List.{AllByRecursion}

-- each span of units begins below this one, and ends there or below
abbrev pub AreBelow : ℕ → List (ℕ × ℕ) → Type 0
AreBelow b spans = AllByRecursion (λ (s : ℕ × ℕ). (s.0 < b) × (s.0 + s.1 ≤ b)) spans
