-- Stretches of a script without a line feed.
use Rattle.std.specs.Prelude.{◌≡◌, ℕ, ◌+◌, ◌<◌, List, [], ◌∷◌, ◌++◌, length, take}
use Rattle.clr_script.specs.Fronts.{IsUnfed}

-- the first line feed of the bytes stands here
pub record IsFirstFeed (bytes : List ℕ) (at : ℕ) : Type 0 where
  pub within : at < length bytes
  pub before : IsUnfed (take at bytes)
  pub here : take (at + 1) bytes ≡ take at bytes ++ 10 ∷ []
