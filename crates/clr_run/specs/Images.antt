-- What the command that makes an image comes to: all lines of the source are run, and then the image is written.
use Rattle.std.specs.Prelude.{◌≡◌, ◌⊎◌, ℕ, List, take, Option, IsSomeAnd}
use Rattle.clr_model.specs.LineGrammar.{script_lines}
use Rattle.clr_model.specs.Machine.{Machine, Options}
use Rattle.clr_model.specs.Outcomes.{Outcome}
use Rattle.clr_model.specs.Picture.{picture}
use Rattle.clr_model.specs.Run.{opening}
use Rattle.clr_format.specs.Saved.{image_bytes}
use Rattle.clr_runtime.specs.RuntimeView.{RuntimeView, StandsFor}
use Rattle.clr_save.specs.SavedImages.{IsImageOf}
use Rattle.clr_args.specs.Grammar.{SaysImage, SaysInspect, SaysMigrate, SaysOpen, Text}
use Rattle.clr_args.specs.declared.budgets.Budgets.{Budgets}
use Rattle.clr_streams.specs.Faults.{Appended}
use Rattle.clr_streams.specs.Reading.{ReadTooMuch, ReadWhole}
use Rattle.clr_streams.specs.declared.status.Status.{Status}
use Rattle.clr_streams.specs.declared.status.Status.TheVariants.{Done, TooMuch, WriteFault}
use Rattle.clr_session.specs.Runs.{Run}

-- the image of a machine, each object named by its place
abbrev pub image_of : Machine → List ℕ
image_of m = image_bytes (picture m)

-- the source was read to its end, and its lines were run
pub record RanWhole (options : Options) (limit : ℕ) (held held_after : Option (List ℕ)) (last : Machine) : Type 0 where
  pub taken : List ℕ
  pub read : ReadWhole limit held held_after taken
  pub outcomes : List Outcome
  pub run : Run (opening options) (script_lines taken) outcomes last

-- and the image of the last state was written, which is one, and says what that state is
pub record MadeImage (options : Options) (limit : ℕ) (held held_after written written_after : Option (List ℕ)) : Type 0
  where
    pub last : Machine
    pub ran : RanWhole options limit held held_after last
    pub is : IsImageOf (picture last) (image_of last)
    pub wrote : Appended written written_after (image_of last)

-- or a part from its front
pub record MadePart (options : Options) (limit : ℕ) (held held_after written written_after : Option (List ℕ)) : Type 0
  where
    pub last : Machine
    pub ran : RanWhole options limit held held_after last
    pub count : ℕ
    pub wrote : Appended written written_after (take count (image_of last))

-- What the command that makes an image comes to. Nothing is written before all lines were run.
pub record MakesImage (options : Options) (limit : ℕ) (held held_after written written_after : Option (List ℕ))
    (end_state : Option RuntimeView) (result : Status) : Type 0 where
  pub done : result ≡ Done → (made : MadeImage options limit held held_after written written_after)
      × IsSomeAnd end_state (λ runtime. StandsFor runtime made.last)
  pub write_before : result ≡ WriteFault → MadePart options limit held held_after written written_after
  pub too_much : result ≡ TooMuch → ReadTooMuch limit held held_after

-- ---- the arguments of these commands

-- an image is read
abbrev pub LooksAtImage : List (List ℕ) → Type 0
LooksAtImage arguments = SaysInspect arguments ⊎ SaysMigrate arguments

-- a script is run from the state that an image says
abbrev pub OpensImage : List (List ℕ) → Type 0
OpensImage arguments = (budgets : Budgets) × (path : Text) × SaysOpen arguments budgets path

-- nothing is written before all is read
abbrev pub WritesAtEnd : List (List ℕ) → Type 0
WritesAtEnd arguments = ((options : Options) × SaysImage arguments options) ⊎ LooksAtImage arguments
