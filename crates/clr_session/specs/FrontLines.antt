-- Lines in front of a text that are done at once, one after another.
use Rattle.std.specs.Prelude.{◌≡◌, ◌<◌, ◌≤◌, ℕ, List, [], ◌++◌, length, take, Option, Some, None}
use Rattle.clr_model.specs.Machine.{Machine}
use Rattle.clr_model.specs.Outcomes.{Outcome}
use Rattle.clr_session.specs.Output.{Wrote, WroteSome}
use Rattle.clr_session.specs.Progress.{Progress}
use Rattle.clr_session.specs.Runs.{run_text}

-- A script of which no line is begun goes on by these bytes to where none is begun again, and this is the text of its
-- answers to them.
unfoldable pub GoesOver : Machine → List ℕ → List ℕ → Machine → Type 0
GoesOver old bytes reply new = (first : Machine) (taken : List ℕ) (outcomes : List Outcome)
    → Progress first old [] taken outcomes
    → (more : List Outcome) × Progress first new [] (taken ++ bytes) (outcomes ++ more) × (reply ≡ run_text more)

-- lines, so much of the text, were answered, and their replies put behind what was waiting; or nothing was done
abbrev pub AnswersFront : Machine → Machine → List ℕ → Option (List ℕ) → Option (List ℕ) → List ℕ → List ℕ → Option ℕ
    → Type 0
AnswersFront old new text before after waiting left None = (new ≡ old) × (after ≡ before) × (left ≡ waiting)
AnswersFront old new text before after waiting left (Some read) = (0 < read) × (read ≤ length text)
    × (reply : List ℕ) × GoesOver old (take read text) reply new × Wrote before after waiting left reply

-- lines were answered, and a part of what was waiting and of their replies was written
pub record StopsFront (old new : Machine) (text : List ℕ) (before after : Option (List ℕ)) (waiting : List ℕ)
    : Type 0 where
  pub read : ℕ
  pub some : 0 < read
  pub within : read ≤ length text
  pub reply : List ℕ
  pub goes : GoesOver old (take read text) reply new
  pub wrote : WroteSome before after (waiting ++ reply)
