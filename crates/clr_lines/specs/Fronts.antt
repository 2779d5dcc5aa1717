-- Lines in front of a text that were done, and how they are answered.
use Rattle.std.specs.Prelude.{◌≡◌, ℕ, ◌+◌, List, ◌∷◌, ◌++◌, length}
use Rattle.clr_model.specs.Instructions.{Instruction}
use Rattle.clr_model.specs.Machine.{Machine}
use Rattle.clr_model.specs.Outcomes.{Outcome, outcome_text}
use Rattle.clr_model.specs.Run.{Follows}
use Rattle.clr_script.specs.Fronts.{IsInFront, IsUnfed}
use Rattle.clr_lines.specs.Lines.{FollowsLine}

-- what the line in front of a text says was done, and this is the reply
pub record IsDone (old : Machine) (text rest reply : List ℕ) (new : Machine) : Type 0 where
  pub instruction : Instruction
  pub front : IsInFront instruction text rest
  pub outcome : Outcome
  pub follows : Follows old instruction outcome new
  pub told : reply ≡ outcome_text outcome

-- the first line of a text, so many bytes with its line feed, was answered with this reply
pub record IsAnswered (old : Machine) (text : List ℕ) (read : ℕ) (reply : List ℕ) (new : Machine) : Type 0 where
  pub line : List ℕ
  pub rest : List ℕ
  pub cut : text ≡ line ++ (10 ∷ rest)
  pub read_is : read ≡ length line + 1
  pub unfed : IsUnfed line
  pub outcome : Outcome
  pub follows : FollowsLine old line outcome new
  pub told : reply ≡ outcome_text outcome
