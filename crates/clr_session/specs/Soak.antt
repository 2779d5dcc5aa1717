-- The run of a generated script, and what is written of its last state.
use Rattle.std.specs.Prelude.{ℕ, Bool, true, false, List, [], ◌∷◌, ◌++◌, length, take, Option, None, codes, decimal}
use Rattle.std.specs.Prelude.{count_by}
use Rattle.clr_model.specs.declared.Life.TheVariants.{Any}
use Rattle.clr_model.specs.declared.Mode.TheVariants.{Stat}
use Rattle.clr_model.specs.declared.Reply.TheVariants.{Clean}
use Rattle.clr_model.specs.Instructions.{DumpOptions}
use Rattle.clr_model.specs.Machine.{Machine, Options}
use Rattle.clr_model.specs.Outcomes.{Outcome, answered, shown, refused, outcome_text}
use Rattle.clr_model.specs.Picture.{picture}
use Rattle.clr_model.specs.Run.{StandsFor, opening}
use Rattle.clr_model.specs.Sos.{dumpheap_text, line}
use Rattle.clr_script.specs.Made.{made_lines}
use Rattle.clr_streams.specs.Faults.{Appended}
use Rattle.clr_session.specs.Runs.{Run}

-- ---- lines that are refused

abbrev pub is_refused : Outcome → Bool
is_refused (answered reply) = false
is_refused (shown text) = false
is_refused (refused refusal) = true

abbrev pub refused_count : List Outcome → ℕ
refused_count = count_by is_refused

-- ---- the summary

-- the options of `dumpheap -stat`
abbrev pub stat_options : DumpOptions
stat_options = record {
  mode = Stat;
  life = Any;
  mt = None;
  name = None;
  least = None;
  greatest = None;
  generation = None;
  segment = None;
}

-- the reply to `dumpheap -stat`, for which it plays no part what is reached
abbrev pub stat_text : Machine → List ℕ
stat_text seen = dumpheap_text seen (λ place. true) stat_options

-- the reply to `verifyheap`
abbrev pub clean_text : List ℕ
clean_text = outcome_text (answered Clean)

-- how many lines were run and refused, and the replies to `dumpheap -stat` and `verifyheap`
abbrev pub summary_text : ℕ → ℕ → Machine → List ℕ
summary_text lines refusals seen =
    line (codes "lines" ∷ decimal lines ∷ codes "refused" ∷ decimal refusals ∷ []) ++ (stat_text seen ++ clean_text)

-- the summary of a run with these outcomes that came to this state
abbrev pub soak_text : List Outcome → Machine → List ℕ
soak_text outcomes last = summary_text (length outcomes) (refused_count outcomes) (picture last)

-- ---- what is done

-- each state that is stood for before has a last one, by the steps of these lines, that is stood for afterwards
unfoldable pub FollowsLines : Machine → List (List ℕ) → List Outcome → Machine → Type 0
FollowsLines old lines outcomes new = (m : Machine) → StandsFor old m
    → (last : Machine) × Run m lines outcomes last × StandsFor new last

-- the generated script of a seed was run, and the summary was written
pub record Soaked (options : Options) (seed count : ℕ) (written written_after : Option (List ℕ)) : Type 0 where
  pub outcomes : List Outcome
  pub last : Machine
  pub run : Run (opening options) (made_lines seed count) outcomes last
  pub wrote : Appended written written_after (soak_text outcomes last)

-- the generated script of a seed was run, and a part from the front of the summary was written
pub record SoakCutShort (options : Options) (seed count : ℕ) (written written_after : Option (List ℕ)) : Type 0 where
  pub outcomes : List Outcome
  pub last : Machine
  pub run : Run (opening options) (made_lines seed count) outcomes last
  pub part : ℕ
  pub wrote : Appended written written_after (take part (soak_text outcomes last))
