-- What the command that opens an image comes to: all bytes of the image are read, and then the script is run from the
-- state that it says.
use Rattle.std.specs.Prelude.{◌≡◌, ◌≤◌, ◌⊎◌, ℕ, List, [], ◌∷◌, length, take, Option, Some}
use Rattle.std.specs.Prelude.{IfSome, IsSomeAnd, option_map}
use Rattle.clr_args.specs.declared.budgets.Budgets as said
use Rattle.clr_model.specs.LineGrammar.{ended_lines, script_lines}
use Rattle.clr_model.specs.Machine.{Machine}
use Rattle.clr_model.specs.Run as model
use Rattle.clr_format.specs.Images.{HasFault, IsImage, Parts}
use Rattle.clr_image_io.specs.Images.{bad_image_text, unfit_image_text}
use Rattle.clr_opened.specs.Opened.{Budgets, opened}
use Rattle.clr_open.specs.Fit.{IsFit, IsUnfitAt}
use Rattle.clr_runtime.specs.RuntimeView.{RuntimeView, StandsFor}
use Rattle.clr_session.specs.Progress.{Answered, CutShort}
use Rattle.clr_session.specs.Runs.{IsRunFrom}
use Rattle.clr_streams.specs.Faults.{Appended}
use Rattle.clr_streams.specs.Reading.{ReadTooMuch, ReadWhole}
use Rattle.clr_streams.specs.declared.status.Status.{Status}
use Rattle.clr_streams.specs.declared.status.Status.TheVariants.{BadImage, Done, ReadFault, TooMuch, WriteFault}

-- budgets that arguments say, as those that an image doesn't say
abbrev pub budgets_with : said.Budgets → Budgets
budgets_with b = record { b0 = b.b0; b1 = b.b1; b2 = b.b2; bl = b.bl; compact = b.compact }

-- what a source holds, or what was written to a sink, where it is told
abbrev pub Told : Type 0
Told = Option (List ℕ)

-- An image was read whole from which a run goes on, and a state for which what it says stands, with these budgets.
pub record HasOpened (budgets : Budgets) (limit : ℕ) (image image_after : Told) (first : Machine) : Type 0 where
  pub bytes : List ℕ
  pub read : ReadWhole limit image image_after bytes
  pub parts : Parts
  pub is : IsImage bytes parts
  pub fits : IsFit parts
  pub stands : model.StandsFor (opened parts budgets) first

-- ---- a script that is run

-- The script is read to its end, the replies are the text of one run over all its lines, and the end state stands for
-- the last state of this run.
abbrev pub RanAll : Machine → Told → Told → Told → Told → Option RuntimeView → Type 0
RanAll first script script_after written written_after end_state =
    IfSome script (λ bytes. (text : List ℕ) × (last : Machine) × IsRunFrom first bytes text last
    × Appended written written_after text × (script_after ≡ Some [])
    × IsSomeAnd end_state (λ runtime. StandsFor runtime last))

-- Some bytes were taken of the script, at most so many, all lines of these have their replies written, and the end state
-- stands for the last state. So it is also where the source doesn't tell its bytes.
abbrev pub RanTaken : Machine → ℕ → Told → Told → Told → Told → Option RuntimeView → Type 0
RanTaken first limit script script_after written written_after end_state = (taken : List ℕ)
    × (answered : Answered first script_lines script script_after written written_after taken)
    × (length taken ≤ limit) × IsSomeAnd end_state (λ runtime. StandsFor runtime answered.last)

-- at most so many bytes were taken of the script, and the lines that ended in them have their replies written
abbrev pub RanEnded : Machine → ℕ → Told → Told → Told → Told → Type 0
RanEnded first limit script script_after written written_after = (taken : List ℕ)
    × Answered first ended_lines script script_after written written_after taken × (length taken ≤ limit)

-- So many bytes were taken of the script, and one more. The lines that ended before it have their replies written.
abbrev pub RanTooMuch : Machine → ℕ → Told → Told → Told → Told → Type 0
RanTooMuch first limit script script_after written written_after = (taken : List ℕ) × (byte : ℕ)
    × Answered first ended_lines script (option_map (λ rest. byte ∷ rest) script_after) written written_after taken
    × (length taken ≡ limit)

-- ---- bytes that are refused

-- the line for bytes that are no image, or for an image from which no run goes on
abbrev pub IsRefusal : List ℕ → List ℕ → Type 0
IsRefusal bytes text =
    ((offset : ℕ) × HasFault bytes offset × (text ≡ bad_image_text offset))
    ⊎ ((parts : Parts) × (offset : ℕ) × IsImage bytes parts × IsUnfitAt parts offset
    × (text ≡ unfit_image_text offset))

-- all of a text, or a part from its front
abbrev pub IsAll : List ℕ → List ℕ → Type 0
IsAll text shown = shown ≡ text

abbrev pub IsFront : List ℕ → List ℕ → Type 0
IsFront text shown = (count : ℕ) × (shown ≡ take count text)

-- Such bytes were read whole, and of the line all or a part was written.
pub record HasRefused (limit : ℕ) (image image_after written written_after : Told) (part : List ℕ → List ℕ → Type 0)
    : Type 0 where
  pub bytes : List ℕ
  pub read : ReadWhole limit image image_after bytes
  pub text : List ℕ
  pub is : IsRefusal bytes text
  pub shown : List ℕ
  pub is_part : part text shown
  pub wrote : Appended written written_after shown

-- ---- the whole

-- What the command comes to, by what the sources of the image and of the script told and what the sink was told: after
-- `Done` the replies are the text of one run over all lines of the script from a state that the image says. Where the
-- image wasn't read whole, or is refused, nothing of the script is read.
pub record Opens (budgets : Budgets) (image_limit limit : ℕ)
    (image image_after script script_after written written_after : Told) (end_state : Option RuntimeView)
    (result : Status) : Type 0 where
  pub headline : result ≡ Done → (first : Machine) × HasOpened budgets image_limit image image_after first
      × RanAll first script script_after written written_after end_state
  pub done : result ≡ Done → (first : Machine) × HasOpened budgets image_limit image image_after first
      × RanTaken first limit script script_after written written_after end_state
  pub bad_image : result ≡ BadImage → HasRefused image_limit image image_after written written_after IsAll
      × (script_after ≡ script)
  pub read_before : result ≡ ReadFault → ((script_after ≡ script) × (written_after ≡ written))
      ⊎ ((first : Machine) × HasOpened budgets image_limit image image_after first
      × RanEnded first limit script script_after written written_after)
  pub write_before : result ≡ WriteFault → (HasRefused image_limit image image_after written written_after IsFront
      × (script_after ≡ script))
      ⊎ ((first : Machine) × HasOpened budgets image_limit image image_after first
      × CutShort first limit script script_after written written_after)
  pub too_much : result ≡ TooMuch → (ReadTooMuch image_limit image image_after
      × (script_after ≡ script) × (written_after ≡ written))
      ⊎ ((first : Machine) × HasOpened budgets image_limit image image_after first
      × RanTooMuch first limit script script_after written written_after)
