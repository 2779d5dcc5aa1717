-- What the command that makes an image comes to, from what was run and what was written.
use Rattle.std.proofs.Common.{◌≡◌, ◌≢◌, ◌≤◌, ℕ, List, [], ◌∷◌, ◌++◌, length, take, Option, Some, None, Result, Ok, Err}
use Rattle.std.proofs.Common.{IfSome, IsSomeAnd, option_map, refl, sym, ap, subst, ◌∙◌, arith, ◌⊎◌, inl, inr}
use Rattle.clr_format.specs.Saved.{image_bytes}
use Rattle.clr_model.specs.LineGrammar.{ended_lines, script_lines}
use Rattle.clr_model.specs.Machine.{Machine, Options}
use Rattle.clr_model.specs.Picture.{picture}
use Rattle.clr_model.specs.Run.{opening}
use Rattle.clr_runtime.specs.RuntimeView.{RuntimeView, StandsFor}
use Rattle.clr_save.specs.SavedImages.{IsImageOf}
use Rattle.clr_streams.specs.Faults.{Appended, Taken}
use Rattle.clr_streams.specs.Reading.{ReadTooMuch}
use Rattle.clr_session.specs.Progress.{Answered}
use Rattle.clr_run.specs.Images.{image_of, MadeImage, MadePart, MakesImage, RanWhole}
use Rattle.clr_streams.specs.declared.status.Status.{Status}
use Rattle.clr_streams.specs.declared.status.Status.TheVariants.{BadImage, Done, Memory, ReadFault, TooMuch}
use Rattle.clr_streams.specs.declared.status.Status.TheVariants.{Usage, WriteFault}
use Rattle.clr_streams.proofs.ByteStreams.{taken_more}

-- ---- what was run

no_state : (runtime : RuntimeView) (end_state : Option RuntimeView) → end_state ≡ Some runtime → end_state ≡ None → ⊥
no_state runtime end_state some none = cc

-- where there is an end state, all lines were run
pub done_of : (status : Status) (end_state : Option RuntimeView) (runtime : RuntimeView) → end_state ≡ Some runtime
    → (status ≢ Done → end_state ≡ None) → status ≡ Done
done_of Done end_state runtime is none = refl
done_of Usage end_state runtime is none = absurd (no_state runtime end_state is (none (λ e. cc)))
done_of ReadFault end_state runtime is none = absurd (no_state runtime end_state is (none (λ e. cc)))
done_of WriteFault end_state runtime is none = absurd (no_state runtime end_state is (none (λ e. cc)))
done_of Memory end_state runtime is none = absurd (no_state runtime end_state is (none (λ e. cc)))
done_of TooMuch end_state runtime is none = absurd (no_state runtime end_state is (none (λ e. cc)))
done_of BadImage end_state runtime is none = absurd (no_state runtime end_state is (none (λ e. cc)))

-- errors that are equal are one status
pub error_is : (A : Type 0) (a b : Status) → ◌≡◌ {A = Result A Status} (Err a) (Err b) → a ≡ b
error_is A a b e = cc

-- a source that doesn't tell its bytes tells none later; one that does was read to its end
pub ended : (held held_after : Option (List ℕ)) (taken : List ℕ) (A : List ℕ → Type 0) → Taken held held_after taken
    → IfSome held A → ((script : List ℕ) → A script → held_after ≡ Some [])
    → IfSome held_after (λ rest. rest ≡ [])
ended None None taken A read told at_end = tt
ended None (Some rest) taken A read told at_end = cc
ended (Some script) held_after taken A read told at_end = rw (at_end script told) refl

-- all lines of a source that was read to its end were run
pub ran_whole : (options : Options) (limit : ℕ) (held held_after written written_after : Option (List ℕ))
    (taken : List ℕ) (answered : Answered (opening options) script_lines held held_after written written_after taken)
    → length taken ≤ limit → IfSome held_after (λ rest. rest ≡ [])
    → RanWhole options limit held held_after answered.last
ran_whole options limit held held_after written written_after taken answered short end = record {
  taken = taken;
  read = record { taken = answered.read; short = short; ended = end };
  outcomes = answered.outcomes;
  run = answered.run;
}

-- a byte more than the limit came
pub read_too_much : (first : Machine) (limit : ℕ) (held held_after written written_after : Option (List ℕ))
    (taken : List ℕ) (byte : ℕ)
    → Answered first ended_lines held (option_map (λ rest. byte ∷ rest) held_after) written written_after taken
    → length taken ≡ limit → ReadTooMuch limit held held_after
read_too_much first limit held held_after written written_after taken byte answered full = record {
  bytes = taken;
  more = byte ∷ [];
  taken = taken_more held (option_map (λ rest. byte ∷ rest) held_after) held_after taken (byte ∷ []) _ answered.read
      refl refl;
  full = full;
  some = omega arith;
}

-- ---- what was written

-- the image of the machine that a runtime shows is that of the machine for which it stands
same_image : (runtime : RuntimeView) (last : Machine) (image : List ℕ) → StandsFor runtime last
    → image ≡ image_bytes runtime.machine → image ≡ image_of last
same_image runtime last image stands is = is ∙ ap image_bytes (sym stands.seen_is)

-- the whole image
pub made_image : (options : Options) (limit : ℕ) (held held_after written written_after : Option (List ℕ))
    (runtime : RuntimeView) (last : Machine) (image : List ℕ) → StandsFor runtime last
    → RanWhole options limit held held_after last → image ≡ image_bytes runtime.machine
    → IsImageOf runtime.machine image → Appended written written_after image
    → MakesImage options limit held held_after written written_after (Some runtime) Done
made_image options limit held held_after written written_after runtime last image stands ran is lawful wrote =
    let same = same_image runtime last image stands is in
    record {
      done = λ e. (
        record {
          last = last;
          ran = ran;
          is = subst (λ (bytes : List ℕ). IsImageOf (picture last) bytes) same
              (subst (λ (m : Machine). IsImageOf m image) (sym stands.seen_is) lawful);
          wrote = subst (λ (bytes : List ℕ). Appended written written_after bytes) same wrote;
        },
        stands,
      );
      write_before = λ e. cc;
      too_much = λ e. cc;
    }

-- a part from its front
pub made_part : (options : Options) (limit : ℕ) (held held_after written written_after : Option (List ℕ))
    (runtime : RuntimeView) (last : Machine) (image : List ℕ) (count : ℕ) (end_state : Option RuntimeView)
    → StandsFor runtime last → RanWhole options limit held held_after last → image ≡ image_bytes runtime.machine
    → Appended written written_after (take count image)
    → MakesImage options limit held held_after written written_after end_state WriteFault
made_part options limit held held_after written written_after runtime last image count end_state stands ran is wrote =
    let same = same_image runtime last image stands is in
    record {
      done = λ e. cc;
      write_before = λ e. record {
        last = last;
        ran = ran;
        count = count;
        wrote = subst (λ (bytes : List ℕ). Appended written written_after (take count bytes)) same wrote;
      };
      too_much = λ e. cc;
    }

-- nothing was wanting
pub no_want : {A : Type 0} (result : Status) → result ≢ ReadFault → result ≢ TooMuch → result ≢ Memory
    → (result ≡ ReadFault) ⊎ ((result ≡ TooMuch) ⊎ (result ≡ Memory)) → A
no_want result read much memory (inl e) = absurd (read e)
no_want result read much memory (inr (inl e)) = absurd (much e)
no_want result read much memory (inr (inr e)) = absurd (memory e)

-- nothing
pub made_none : (options : Options) (limit : ℕ) (held held_after written written_after : Option (List ℕ))
    (end_state : Option RuntimeView) (result : Status) → result ≢ Done → result ≢ WriteFault
    → (result ≡ TooMuch → ReadTooMuch limit held held_after)
    → MakesImage options limit held held_after written written_after end_state result
made_none options limit held held_after written written_after end_state result done part much = record {
  done = λ e. absurd (done e);
  write_before = λ e. absurd (part e);
  too_much = much;
}
