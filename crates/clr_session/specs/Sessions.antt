-- What the parts of a session's work do, by the run of the machine.
use Rattle.std.specs.Prelude.{◌≡◌, ◌<◌, ◌≤◌, ℕ, List, [], ◌++◌, length, take, Option, Some, None}
use Rattle.clr_model.specs.Machine.{Machine}
use Rattle.clr_model.specs.LineGrammar.{script_lines, ended_lines}
use Rattle.clr_model.specs.Outcomes.{Outcome}
use Rattle.clr_script.specs.Fronts.{IsUnfed}
use Rattle.clr_session.specs.Runs.{Run, run_text}
use Rattle.clr_model.specs.Run.{StandsFor}
use Rattle.clr_session.specs.Output.{Wrote, WroteSome}
use Rattle.clr_session.specs.Progress.{Progress}
use Rattle.clr_session.specs.declared.session.Session.{Session}

-- a session that began in this first state, and took these bytes
abbrev pub IsAt : Machine → Session → List ℕ → List Outcome → Type 0
IsAt first session taken outcomes = Progress first session.runtime.machine session.line.items taken outcomes

-- these bytes were answered, and the answers were written or wait
abbrev pub Goes : Session → Session → List ℕ → Option (List ℕ) → Option (List ℕ) → Type 0
Goes old new bytes before after = (first : Machine) (taken : List ℕ) (outcomes : List Outcome)
    → IsAt first old taken outcomes →
    (more : List Outcome) × IsAt first new (taken ++ bytes) (outcomes ++ more)
    × Wrote before after old.pending new.pending (run_text more)

-- The line that ends first in a text was answered, and perhaps some behind it, so many bytes with the last line feed;
-- or none ends in it, and the machine stays.
abbrev pub GoesLine : Session → Session → List ℕ → Option (List ℕ) → Option (List ℕ) → Option ℕ → Type 0
GoesLine old new text before after None =
    IsUnfed text × (new.runtime.machine ≡ old.runtime.machine) × Goes old new [] before after
GoesLine old new text before after (Some count) =
    (0 < count) × (count ≤ length text) × Goes old new (take count text) before after

-- What was left of the input was answered, and the answers were written or wait. The runtime stands for the last state.
abbrev pub Ends : Session → Session → Option (List ℕ) → Option (List ℕ) → Type 0
Ends old new before after = (first : Machine) (taken : List ℕ) (outcomes : List Outcome)
    → IsAt first old taken outcomes →
    (more : List Outcome) × (last : Machine) × Run first (script_lines taken) (outcomes ++ more) last
    × StandsFor new.runtime.machine last
    × Wrote before after old.pending new.pending (run_text more)

-- Writing stopped at a line that these bytes ended: the lines up to there were answered, and a part of what waited and
-- of their text was written.
pub record Stopped (first : Machine) (waiting taken bytes : List ℕ) (outcomes : List Outcome)
    (before after : Option (List ℕ)) : Type 0 where
  pub part : List ℕ
  pub rest : List ℕ
  pub cut : bytes ≡ part ++ rest
  pub more : List Outcome
  pub last : Machine
  pub run : Run first (ended_lines (taken ++ part)) (outcomes ++ more) last
  pub wrote : WroteSome before after (waiting ++ run_text more)

abbrev pub Stops : Session → List ℕ → Option (List ℕ) → Option (List ℕ) → Type 0
Stops old bytes before after = (first : Machine) (taken : List ℕ) (outcomes : List Outcome)
    → IsAt first old taken outcomes → Stopped first old.pending taken bytes outcomes before after

-- writing stopped at the last line, which no line feed ends
pub record StoppedLast (first : Machine) (waiting taken : List ℕ) (outcomes : List Outcome)
    (before after : Option (List ℕ)) : Type 0 where
  pub more : List Outcome
  pub last : Machine
  pub run : Run first (script_lines taken) (outcomes ++ more) last
  pub wrote : WroteSome before after (waiting ++ run_text more)

abbrev pub StopsLast : Session → Option (List ℕ) → Option (List ℕ) → Type 0
StopsLast old before after = (first : Machine) (taken : List ℕ) (outcomes : List Outcome)
    → IsAt first old taken outcomes → StoppedLast first old.pending taken outcomes before after

-- these bytes were answered, and all that waited and the answers were written
abbrev pub GoesWritten : Session → Session → List ℕ → Option (List ℕ) → Option (List ℕ) → Type 0
GoesWritten old new bytes before after = (first : Machine) (taken : List ℕ) (outcomes : List Outcome)
    → IsAt first old taken outcomes →
    (more : List Outcome) × IsAt first new (taken ++ bytes) (outcomes ++ more)
    × Wrote before after old.pending [] (run_text more) × (new.pending ≡ [])

-- What was left of the input was answered, and all that waited and the answers were written. The runtime stands for the
-- last state.
abbrev pub EndsWritten : Session → Session → Option (List ℕ) → Option (List ℕ) → Type 0
EndsWritten old new before after = (first : Machine) (taken : List ℕ) (outcomes : List Outcome)
    → IsAt first old taken outcomes →
    (more : List Outcome) × (last : Machine) × Run first (script_lines taken) (outcomes ++ more) last
    × StandsFor new.runtime.machine last
    × Wrote before after old.pending [] (run_text more)
