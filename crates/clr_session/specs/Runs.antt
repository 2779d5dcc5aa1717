-- Runs: a list of lines, a whole script.
use Rattle.std.specs.Prelude.{◌≡◌, ℕ, List, [], ◌∷◌}
use Rattle.std.specs.List.{flat_map}
use Rattle.clr_lines.specs.Lines.{Step}
use Rattle.clr_model.specs.Machine.{Options, Machine}
use Rattle.clr_model.specs.LineGrammar.{script_lines}
use Rattle.clr_model.specs.Outcomes.{Outcome, outcome_text}
use Rattle.clr_model.specs.Run.{opening}

-- each line in its turn, from one state to another
abbrev pub Run : Machine → List (List ℕ) → List Outcome → Machine → Type 0
Run m [] [] last = last ≡ m
Run m [] (outcome ∷ outcomes) last = ⊥
Run m (line ∷ lines) [] last = ⊥
Run m (line ∷ lines) (outcome ∷ outcomes) last = (next : Machine) × Step m line outcome next
    × Run next lines outcomes last

-- the replies in order
abbrev pub run_text : List Outcome → List ℕ
run_text = flat_map outcome_text

-- a run of a whole script from a first state, its text and its last state
pub record IsRunFrom (first : Machine) (script : List ℕ) (text : List ℕ) (last : Machine) : Type 0 where
  pub outcomes : List Outcome
  pub run : Run first (script_lines script) outcomes last
  pub text_is : text ≡ run_text outcomes

-- one from the opening state
abbrev pub IsRunOf : Options → List ℕ → List ℕ → Machine → Type 0
IsRunOf options = IsRunFrom (opening options)
