-- The loop over the pieces of a script.
use Rattle.std.proofs.Common.{◌≡◌, ℕ, ◌+◌, ◌-◌, ◌≤◌, List, [], ◌∷◌, ◌++◌, length, take, Option, Some, None, option_map}
use Rattle.std.proofs.Common.{IfSome, refl, ap, sym, subst, ◌∙◌, arith, append_assoc}
use Rattle.std.proofs.Common.{append-nil, length-append}
use Rattle.std.proofs.Math.Seq.{take-append-add}
use Rattle.clr_model.specs.Machine.{Machine}
use Rattle.clr_model.specs.LineGrammar.{script_lines, ended_lines}
use Rattle.clr_model.specs.Outcomes.{Outcome}
use Rattle.clr_session.specs.Runs.{IsRunFrom, Run, run_text}
use Rattle.clr_model.specs.Run.{StandsFor}
use Rattle.clr_runtime.specs.RuntimeView.{RuntimeView}
use Rattle.clr_streams.specs.Faults.{Appended, Taken}
use Rattle.clr_session.specs.Output.{Wrote, WroteSome}
use Rattle.clr_session.specs.Progress.{Answered, CutShort, begun}
use Rattle.clr_session.specs.Sessions.{IsAt, GoesWritten, EndsWritten, Stops, StopsLast}
use Rattle.clr_session.specs.declared.session.Session.{Session}
use Rattle.clr_streams.proofs.ByteStreams.{appended_more, taken_more}
use Rattle.clr_session.proofs.Outputs.{appended_none}
use Rattle.clr_session.proofs.LineLists.{run_text-append, script_lines-append}

-- so many bytes may still be taken, and those that were are answered in writing
pub record Running (first : Machine) (session : Session) (held held_now written written_now : Option (List ℕ))
    (limit left : ℕ) : Type 0 where
  pub taken : List ℕ
  pub outcomes : List Outcome
  pub at : IsAt first session taken outcomes
  pub read : Taken held held_now taken
  pub wrote : Appended written written_now (run_text outcomes)
  pub counted : length taken + left ≡ limit
  pub none_waits : session.pending ≡ []

taken_none : (held : Option (List ℕ)) → Taken held held []
taken_none None = refl
taken_none (Some bytes) = refl

-- In a run from each state for which this stands, so many bytes may still be taken, and those that were are answered in
-- writing.
pub record RunningFromEach (seen : Machine) (session : Session) (held held_now written written_now : Option (List ℕ))
    (limit left : ℕ) : Type 0 where
  pub from : (first : Machine) → StandsFor seen first
      → Running first session held held_now written written_now limit left

-- no byte was taken yet
pub started : (session : Session) (held written : Option (List ℕ)) (limit : ℕ) → session.line.items ≡ []
    → session.pending ≡ []
    → RunningFromEach session.runtime.machine session held held written written limit limit
started session held written limit no_line none = record {
  from = λ first stands. record {
    taken = [];
    outcomes = [];
    at = record { state = first; run = refl; shown = stands; kept = no_line };
    read = taken_none held;
    wrote = appended_none written;
    counted = omega arith;
    none_waits = none;
  };
}

-- a runtime that stays stands for what it stood for
pub still_stands : {one two : RuntimeView} {first : Machine} → two ≡ one → StandsFor one.machine first
    → StandsFor two.machine first
still_stands {first = first} same stands = subst (λ (r : RuntimeView). StandsFor r.machine first) (sym same) stands

-- where nothing waits before or after, the text was written
all_written : (before after : Option (List ℕ)) (waiting text : List ℕ) → waiting ≡ []
    → Wrote before after waiting [] text → Appended before after text
all_written before after waiting text none wrote =
    let same : wrote.out ≡ text = sym (append-nil wrote.out) ∙ (wrote.kept ∙ ap (λ front. front ++ text) none) in
    subst (λ (out : List ℕ). Appended before after out) same wrote.appended

-- a piece was taken
pub went_on : (first : Machine) (one two : Session) (held held1 held2 written written1 written2 : Option (List ℕ))
    (limit left n : ℕ) (bytes : List ℕ) →
    Running first one held held1 written written1 limit left → Taken held1 held2 bytes
    → GoesWritten one two bytes written1 written2 → length bytes ≡ n → n ≤ left →
    Running first two held held2 written written2 limit (left - n)
went_on first one two held held1 held2 written written1 written2 limit left n bytes running read goes count within =
    let more = goes first running.taken running.outcomes running.at in
    record {
      taken = running.taken ++ bytes;
      outcomes = running.outcomes ++ more.0;
      at = more.1;
      read = taken_more held held1 held2 running.taken bytes _ running.read read refl;
      wrote = appended_more written written1 written2 (run_text running.outcomes) (run_text more.0) _ running.wrote
          (all_written written1 written2 one.pending (run_text more.0) running.none_waits more.2)
          (sym (run_text-append running.outcomes more.0));
      counted = let l = length-append running.taken bytes in let c = running.counted in omega (arith, l, c, count);
      none_waits = more.3;
    }

-- the end of the input came
pub finished : (first : Machine) (session new : Session)
    (held held1 held2 written written1 written2 : Option (List ℕ)) (limit left : ℕ) →
    Running first session held held1 written written1 limit left → Taken held1 held2 []
    → EndsWritten session new written1 written2 →
    (taken : List ℕ) × (answered : Answered first script_lines held held2 written written2 taken)
    × StandsFor new.runtime.machine answered.last × (length taken ≤ limit)
finished first session new held held1 held2 written written1 written2 limit left running read ends =
    let more = ends first running.taken running.outcomes running.at in (
      running.taken,
      record {
        outcomes = running.outcomes ++ more.0;
        last = more.1;
        run = more.2;
        read = taken_more held held1 held2 running.taken [] running.taken running.read read (append-nil running.taken);
        wrote = appended_more written written1 written2 (run_text running.outcomes) (run_text more.0) _ running.wrote
            (all_written written1 written2 session.pending (run_text more.0) running.none_waits more.4)
            (sym (run_text-append running.outcomes more.0));
      },
      more.3,
      let c = running.counted in omega (arith, c),
    )

-- what was answered so far
pub so_far : (first : Machine) (session : Session) (held held1 written written1 : Option (List ℕ)) (limit left : ℕ) →
    (running : Running first session held held1 written written1 limit left)
    → Answered first ended_lines held held1 written written1 running.taken
so_far first session held held1 written written1 limit left running =
    record {
      outcomes = running.outcomes;
      last = running.at.state;
      run = running.at.run;
      read = running.read;
      wrote = running.wrote;
    }

-- nothing is left where nothing was held
pub at_end : (before after : Option (List ℕ)) → Taken before after [] → IfSome before (λ held. held ≡ [])
    → IfSome after (λ held. held ≡ [])
at_end before None read none = tt
at_end before (Some rest) read none = rw read at none

one_byte : (bytes : List ℕ) → length bytes ≡ 1 → (byte : ℕ) × (bytes ≡ byte ∷ [])
one_byte [] e = absurd (omega arith)
one_byte (b ∷ []) e = (b, refl)
one_byte (b ∷ c ∷ bytes) e = absurd (omega arith)

-- a byte came that is one too many
pub past_limit : (first : Machine) (session : Session) (held held1 held2 written written1 : Option (List ℕ))
    (limit left : ℕ) (bytes : List ℕ) →
    Running first session held held1 written written1 limit left → left ≡ 0 → Taken held1 held2 bytes
    → length bytes ≡ 1 →
    (taken : List ℕ) × (byte : ℕ) × Answered first ended_lines held
    (option_map (λ rest. byte ∷ rest) held2) written written1 taken × (length taken ≡ limit)
past_limit first session held held1 held2 written written1 limit left bytes running none read single =
    let one = one_byte bytes single in
    let last : held1 ≡ option_map (λ rest. one.0 ∷ rest) held2 = rw one.1 at read in (
      running.taken,
      one.0,
      rw (← last) (so_far first session held held1 written written1 limit left running),
      let c = running.counted in omega (arith, c),
    )

-- ---- where writing stops

-- a part of what waited and of a text was written after others, of which nothing waits
some_written : (before mid after : Option (List ℕ)) (waiting : List ℕ) (some more : List Outcome) → waiting ≡ []
    → Appended before mid (run_text some) → (wrote : WroteSome mid after (waiting ++ run_text more))
    → Appended before after (take (length (run_text some) + wrote.count) (run_text (some ++ more)))
some_written before mid after waiting some more none front wrote =
    let part : Appended mid after (take wrote.count (run_text more)) =
    subst (λ (w : List ℕ). Appended mid after (take wrote.count (w ++ run_text more))) none wrote.appended in
    appended_more before mid after (run_text some) (take wrote.count (run_text more)) _ front part
    (sym (ap (take (length (run_text some) + wrote.count)) (run_text-append some more)
    ∙ take-append-add (run_text some) (run_text more) wrote.count))

-- a script whose writing stopped
pub cut_short : (first : Machine) (session : Session) (held held1 held2 written written1 written2 : Option (List ℕ))
    (limit left : ℕ) (bytes : List ℕ) →
    Running first session held held1 written written1 limit left → Taken held1 held2 bytes → length bytes ≤ left
    → Stops session bytes written1 written2 →
    CutShort first limit held held2 written written2
cut_short first session held held1 held2 written written1 written2 limit left bytes running read few stops =
    let s = stops first running.taken running.outcomes running.at in
    record {
      taken = running.taken ++ bytes;
      short = let l = length-append running.taken bytes in let c = running.counted in omega (arith, l, c, few);
      done = ended_lines (running.taken ++ s.part);
      undone = script_lines (begun (running.taken ++ s.part) ++ s.rest);
      cut = rw (s.cut, ← append_assoc) (script_lines-append (running.taken ++ s.part) s.rest);
      outcomes = running.outcomes ++ s.more;
      last = s.last;
      run = s.run;
      read = taken_more held held1 held2 running.taken bytes _ running.read read refl;
      count = length (run_text running.outcomes) + s.wrote.count;
      wrote = some_written written written1 written2 session.pending running.outcomes s.more running.none_waits
          running.wrote s.wrote;
    }

pub cut_short_last : (first : Machine) (session : Session)
    (held held1 held2 written written1 written2 : Option (List ℕ)) (limit left : ℕ) →
    Running first session held held1 written written1 limit left → Taken held1 held2 []
    → StopsLast session written1 written2 →
    CutShort first limit held held2 written written2
cut_short_last first session held held1 held2 written written1 written2 limit left running read stops =
    let s = stops first running.taken running.outcomes running.at in
    record {
      taken = running.taken;
      short = let c = running.counted in omega (arith, c);
      done = script_lines running.taken;
      undone = [];
      cut = sym (append-nil (script_lines running.taken));
      outcomes = running.outcomes ++ s.more;
      last = s.last;
      run = s.run;
      read = taken_more held held1 held2 running.taken [] _ running.read read (append-nil running.taken);
      count = length (run_text running.outcomes) + s.wrote.count;
      wrote = some_written written written1 written2 session.pending running.outcomes s.more running.none_waits
          running.wrote s.wrote;
    }

-- ---- the headline

some_same : (a b : List ℕ) → Some a ≡ Some b → a ≡ b
some_same a b e = cc

some_of : (A : List ℕ → Type 0) (held : Option (List ℕ)) → ((script : List ℕ) → held ≡ Some script → A script)
    → IfSome held A
some_of A None h = tt
some_of A (Some script) h = h script refl

-- a source that tells its bytes was read to its end, and all its lines were answered
pub headline : (first : Machine) (held held_after written written_after : Option (List ℕ)) (taken : List ℕ)
    (answered : Answered first script_lines held held_after written written_after taken)
    → IfSome held_after (λ rest. rest ≡ [])
    → (Q : Machine → Type 0) → Q answered.last
    → IfSome held (λ script. (text : List ℕ) × (last : Machine) × IsRunFrom first script text last
    × Appended written written_after text × (held_after ≡ Some []) × Q last)
headline first held held_after written written_after taken answered ended Q stands =
    some_of _ held (λ script e. go script held_after (sym e ∙ answered.read) ended)
  where
    go : (script : List ℕ) (after : Option (List ℕ)) → Some script ≡ option_map (λ rest. taken ++ rest) after
        → IfSome after (λ rest. rest ≡ [])
        → (text : List ℕ) × (last : Machine) × IsRunFrom first script text last × Appended written written_after text
        × (after ≡ Some []) × Q last
    go script None read end = cc
    go script (Some rest) read end =
        let same : script ≡ taken = some_same script (taken ++ rest) read
        ∙ (ap (λ more. taken ++ more) end ∙ append-nil taken) in (
          run_text answered.outcomes,
          answered.last,
          record {
            outcomes = answered.outcomes;
            run = subst (λ (bytes : List ℕ). Run first (script_lines bytes) answered.outcomes answered.last) (sym same)
                answered.run;
            text_is = refl;
          },
          answered.wrote,
          ap Some end,
          stands,
        )
