-- Texts that are written at once or wait to be written.
use Rattle.std.specs.Prelude.{◌≡◌, ℕ, List, ◌++◌, take, Option}
use Rattle.clr_streams.specs.Faults.{Appended}

-- The text was put behind what was waiting: a part from the front of both was written, and the rest is left waiting.
pub record Wrote (before after : Option (List ℕ)) (waiting left text : List ℕ) : Type 0 where
  pub out : List ℕ
  pub appended : Appended before after out
  pub kept : out ++ left ≡ waiting ++ text

-- a part from the front of the text was written
pub record WroteSome (before after : Option (List ℕ)) (text : List ℕ) : Type 0 where
  pub count : ℕ
  pub appended : Appended before after (take count text)
