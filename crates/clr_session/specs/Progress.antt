-- How far a script has come: the lines that were answered, what was written, and the line that is begun.
use Rattle.std.specs.Prelude.{◌≡◌, ◌==◌, ◌≤◌, ℕ, Bool, List, [], ◌∷◌, ◌++◌, take, length, Option, if◌then◌else◌}
use Rattle.clr_model.specs.Machine.{Machine}
use Rattle.clr_model.specs.LineGrammar.{script_lines, ended_lines}
use Rattle.clr_model.specs.Outcomes.{Outcome}
use Rattle.clr_session.specs.Runs.{Run, run_text}
use Rattle.clr_model.specs.Run.{StandsFor}
use Rattle.clr_streams.specs.Faults.{Taken, Appended}

abbrev pub begun_on : Bool → ℕ → List (List ℕ) → List ℕ → List ℕ
begun_on ends b [] begun = if ends then begun else b ∷ begun
begun_on ends b (line ∷ more) begun = begun

-- what stands after the last line feed
abbrev pub begun : List ℕ → List ℕ
begun [] = []
begun (b ∷ bytes) = begun_on (b == 10) b (ended_lines bytes) (begun bytes)

-- After these bytes the lines that ended, run from the first state on, have these outcomes, and the line that is begun
-- is kept, as far as a line can go.
pub record Progress (first seen : Machine) (line taken : List ℕ) (outcomes : List Outcome) : Type 0 where
  pub state : Machine
  pub run : Run first (ended_lines taken) outcomes state
  pub shown : StandsFor seen state
  pub kept : line ≡ take 4097 (begun taken)

-- a run from the first state over the lines of what was read, whose text was written
pub record Answered (first : Machine) (lines_of : List ℕ → List (List ℕ))
    (held held_after written written_after : Option (List ℕ)) (taken : List ℕ) : Type 0 where
  pub outcomes : List Outcome
  pub last : Machine
  pub run : Run first (lines_of taken) outcomes last
  pub read : Taken held held_after taken
  pub wrote : Appended written written_after (run_text outcomes)

-- a run from the first state over lines from the front of what was read, at most so many bytes, of whose text a part
-- from the front was written
pub record CutShort (first : Machine) (limit : ℕ)
    (held held_after written written_after : Option (List ℕ)) : Type 0 where
  pub taken : List ℕ
  pub short : length taken ≤ limit
  pub done : List (List ℕ)
  pub undone : List (List ℕ)
  pub cut : script_lines taken ≡ done ++ undone
  pub outcomes : List Outcome
  pub last : Machine
  pub run : Run first done outcomes last
  pub read : Taken held held_after taken
  pub count : ℕ
  pub wrote : Appended written written_after (take count (run_text outcomes))
