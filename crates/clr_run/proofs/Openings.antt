-- What the command that opens an image comes to, from what was read, run and written.
use Rattle.std.proofs.Common.{◌≡◌, ◌≢◌, ◌≤◌, ◌⊎◌, ℕ, List, length, take, Option, IfSome, IsSome, inl, inr, refl, subst}
use Rattle.clr_format.specs.Images.{IsImage, Parts}
use Rattle.clr_model.specs.Machine.{Machine}
use Rattle.clr_model.specs.Run as model
use Rattle.clr_opened.specs.Opened.{Budgets, opened}
use Rattle.clr_open.specs.Fit.{IsFit}
use Rattle.clr_runtime.specs.RuntimeView.{RuntimeView, StandsFor}
use Rattle.clr_session.specs.Progress.{CutShort}
use Rattle.clr_streams.specs.Faults.{Appended}
use Rattle.clr_streams.specs.Reading.{ReadTooMuch, ReadWhole}
use Rattle.clr_streams.specs.declared.status.Status.{Status}
use Rattle.clr_streams.specs.declared.status.Status.TheVariants.{BadImage, Done, Memory, ReadFault, TooMuch}
use Rattle.clr_streams.specs.declared.status.Status.TheVariants.{WriteFault}
use Rattle.clr_run.proofs.Statuses.{read_too_long, too_long}
use Rattle.clr_run.specs.Opens.{HasOpened, IsRefusal, Opens, RanEnded, RanTaken, RanTooMuch, RanAll}

-- ---- a script that is run

-- a runtime that goes on from an image stands for a state that the image says
pub has_opened : (budgets : Budgets) (limit : ℕ) (image image_after : Option (List ℕ)) (bytes : List ℕ) (parts : Parts)
    (runtime : RuntimeView) (first : Machine) → ReadWhole limit image image_after bytes → IsImage bytes parts
    → IsFit parts → runtime.machine ≡ opened parts budgets → StandsFor runtime first
    → HasOpened budgets limit image image_after first
has_opened budgets limit image image_after bytes parts runtime first read is fits same stands = record {
  bytes = bytes;
  read = read;
  parts = parts;
  is = is;
  fits = fits;
  stands = subst (λ (m : Machine). model.StandsFor m first) same stands;
}

-- the script was run from such a state
pub opens_ran : (budgets : Budgets) (image_limit limit : ℕ)
    (image image_after script script_after written written_after : Option (List ℕ)) (end_state : Option RuntimeView)
    (result : Status) (first : Machine) → HasOpened budgets image_limit image image_after first
    → (result ≡ Done → RanAll first script script_after written written_after end_state)
    → (result ≡ Done → RanTaken first limit script script_after written written_after end_state)
    → (result ≡ ReadFault → RanEnded first limit script script_after written written_after)
    → (result ≡ WriteFault → CutShort first limit script script_after written written_after)
    → (result ≡ TooMuch → RanTooMuch first limit script script_after written written_after)
    → result ≢ BadImage
    → Opens budgets image_limit limit image image_after script script_after written written_after end_state result
opens_ran budgets image_limit limit image image_after script script_after written written_after end_state result first
    has whole taken read write much bad = record {
      headline = λ e. (first, has, whole e);
      done = λ e. (first, has, taken e);
      bad_image = λ e. absurd (bad e);
      read_before = λ e. inr (first, has, read e);
      write_before = λ e. inr (first, has, write e);
      too_much = λ e. inr (first, has, much e);
    }

-- ---- bytes that are refused

-- a line that is written in the place of an answer ends no command otherwise
refused_alone : (result other : Status) → (result ≡ BadImage) ⊎ ((result ≡ WriteFault) ⊎ (result ≡ Memory))
    → other ≢ BadImage → other ≢ WriteFault → other ≢ Memory → result ≡ other → ⊥
refused_alone result other (inl e) bad write memory is = bad (subst (λ (s : Status). s ≡ BadImage) is e)
refused_alone result other (inr (inl e)) bad write memory is = write (subst (λ (s : Status). s ≡ WriteFault) is e)
refused_alone result other (inr (inr e)) bad write memory is = memory (subst (λ (s : Status). s ≡ Memory) is e)

-- the bytes that were read are refused, and the script is as it was
pub opens_refused : (budgets : Budgets) (image_limit limit : ℕ)
    (image image_after script written written_after : Option (List ℕ)) (end_state : Option RuntimeView)
    (result : Status) (bytes text : List ℕ) → ReadWhole image_limit image image_after bytes → IsRefusal bytes text
    → (result ≡ BadImage → Appended written written_after text)
    → (result ≡ WriteFault → (count : ℕ) × Appended written written_after (take count text))
    → (result ≡ BadImage) ⊎ ((result ≡ WriteFault) ⊎ (result ≡ Memory))
    → Opens budgets image_limit limit image image_after script script written written_after end_state result
opens_refused budgets image_limit limit image image_after script written written_after end_state result bytes text read
    is whole part complete = record {
      headline = λ e. absurd (refused_alone result Done complete (λ d. cc) (λ d. cc) (λ d. cc) e);
      done = λ e. absurd (refused_alone result Done complete (λ d. cc) (λ d. cc) (λ d. cc) e);
      bad_image = λ e. (
        record { bytes = bytes; read = read; text = text; is = is; shown = text; is_part = refl; wrote = whole e },
        refl,
      );
      read_before = λ e. absurd (refused_alone result ReadFault complete (λ d. cc) (λ d. cc) (λ d. cc) e);
      write_before = λ e. let (count, wrote) = part e in inl (
        record {
          bytes = bytes;
          read = read;
          text = text;
          is = is;
          shown = take count text;
          is_part = (count, refl);
          wrote = wrote;
        },
        refl,
      );
      too_much = λ e. absurd (refused_alone result TooMuch complete (λ d. cc) (λ d. cc) (λ d. cc) e);
    }

-- ---- an image that isn't read whole

-- it couldn't be read, or there was no memory for what it says
pub opens_none : (budgets : Budgets) (image_limit limit : ℕ) (image image_after script written : Option (List ℕ))
    (end_state : Option RuntimeView) (result : Status) → result ≢ Done → result ≢ BadImage → result ≢ WriteFault
    → (result ≡ TooMuch → ReadTooMuch image_limit image image_after)
    → Opens budgets image_limit limit image image_after script script written written end_state result
opens_none budgets image_limit limit image image_after script written end_state result done bad write much = record {
  headline = λ e. absurd (done e);
  done = λ e. absurd (done e);
  bad_image = λ e. absurd (bad e);
  read_before = λ e. inl (refl, refl);
  write_before = λ e. absurd (write e);
  too_much = λ e. inl (much e, refl, refl);
}

-- ---- where nothing is wanting

-- neither the image nor the script is too long, where both sources tell that they hold no more bytes
pub not_too_much : (budgets : Budgets) (image_limit limit : ℕ)
    (image image_after script script_after written written_after : Option (List ℕ)) (end_state : Option RuntimeView)
    (result : Status)
    → Opens budgets image_limit limit image image_after script script_after written written_after end_state result
    → IfSome image (λ bytes. length bytes ≤ image_limit) → IfSome script (λ bytes. length bytes ≤ limit)
    → IsSome image → IsSome script → result ≡ TooMuch → ⊥
not_too_much budgets image_limit limit image image_after script script_after written written_after end_state result
    opens short short_script some some_script e = by_part (opens.too_much e)
  where
    by_part : (ReadTooMuch image_limit image image_after × (script_after ≡ script) × (written_after ≡ written))
        ⊎ ((first : Machine) × HasOpened budgets image_limit image image_after first
        × RanTooMuch first limit script script_after written written_after) → ⊥
    by_part (inl much) = read_too_long image image_after image_limit much.0 some short
    by_part (inr (first, has, much)) =
        let (taken, byte, answered, full) = much in
        too_long script script_after taken byte limit answered.read full some_script short_script
