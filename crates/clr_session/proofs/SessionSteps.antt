-- A script goes on by a stretch without a line feed, and by a line.
use Rattle.std.proofs.Common.{◌≡◌, ℕ, ◌+◌, ◌*◌, ◌<◌, ◌≤◌, zero, suc, List, [], ◌∷◌, ◌++◌, length, take, Option, refl}
use Rattle.std.proofs.Common.{sym, ap, ◌∙◌, arith, append_assoc, append-nil, min, ◌-◌, inl, inr}
use Rattle.std.specs.Prelude.{Result, Ok, Err, OnOk}
use Rattle.std.proofs.lemmas.Bool.{cases_lt}
use Rattle.std.proofs.lemmas.List.{take_all}
use Rattle.std.proofs.Math.Seq.{take-append-add}
use Rattle.clr_model.specs.Machine.{Machine, Options}
use Rattle.clr_model.specs.LineGrammar.{script_lines, ended_lines}
use Rattle.clr_model.specs.Outcomes.{Outcome, outcome_text}
use Rattle.clr_lines.specs.Lines.{Step, FollowsLine}
use Rattle.clr_lines.proofs.FrontSteps.{take-min}
use Rattle.clr_session.specs.Runs.{Run, run_text}
use Rattle.clr_model.specs.Run.{StandsFor, opening}
use Rattle.clr_session.specs.Output.{Wrote, WroteSome}
use Rattle.clr_script.specs.Fronts.{IsUnfed}
use Rattle.clr_session.specs.Progress.{Progress, begun}
use Rattle.clr_streams.specs.Faults.{Appended}
use Rattle.clr_session.specs.Sessions.{IsAt, Goes, Ends, EndsWritten, Stops, StopsLast}
use Rattle.clr_session.specs.declared.session.Session.{Session}
use Rattle.clr_streams.proofs.ByteStreams.{appended_more}
use Rattle.clr_session.proofs.Outputs.{wrote_more, wrote_none, wrote_some}
use Rattle.clr_session.proofs.LineLists.{ended_lines-unfed, begun-unfed, ended_lines-line, begun-line}
use Rattle.clr_session.proofs.LineLists.{script_lines-split}
use Rattle.clr_session.proofs.LineLists.{last_line, run-more, run_text-append, whole_line}

-- what is kept of a kept front and more is what is kept of the whole
pub take-kept : (n : ℕ) (xs ys : List ℕ) → take n (take n xs ++ ys) ≡ take n (xs ++ ys)
take-kept zero xs ys = refl
take-kept (suc n) [] ys = refl
take-kept (suc n) (x ∷ xs) ys = ap (λ more. x ∷ more) (take-kept n xs ys)

-- a stretch without a line feed goes on the begun line
pub kept_on : (first seen : Machine) (line kept taken more : List ℕ) (outcomes : List Outcome)
    → Progress first seen line taken outcomes → IsUnfed more → kept ≡ take 4097 (line ++ more)
    → Progress first seen kept (taken ++ more) (outcomes ++ [])
kept_on first seen line kept taken more outcomes at unfed e = record {
  state = at.state;
  run = rw (ended_lines-unfed taken more unfed, append-nil) at.run;
  shown = at.shown;
  kept = e ∙ (ap (λ front. take 4097 (front ++ more)) at.kept
      ∙ (take-kept 4097 (begun taken) more ∙ ap (take 4097) (sym (begun-unfed taken more unfed))));
}

-- a line that ended was answered
pub answered_line : (first seen new : Machine) (line taken rest : List ℕ) (outcomes : List Outcome)
    (outcome : Outcome) → Progress first seen line taken outcomes → IsUnfed rest
    → FollowsLine seen (begun taken ++ rest) outcome new
    → Progress first new [] (taken ++ (rest ++ 10 ∷ [])) (outcomes ++ outcome ∷ [])
unfolding FollowsLine
answered_line first seen new line taken rest outcomes outcome at unfed follows =
    let next = follows at.state at.shown in
    record {
      state = next.0;
      run = rw (ended_lines-line taken rest unfed) (run-more first at.state next.0
          (ended_lines taken) outcomes (begun taken ++ rest) outcome at.run next.1);
      shown = next.2;
      kept = ap (take 4097) (sym (begun-line taken rest));
    }

kept_some : (line begun : List ℕ) → line ≡ take 4097 begun → 0 < length line → last_line begun ≡ begun ∷ []
kept_some line [] e some = let h = ap length e in absurd (omega (arith, h))
kept_some line (b ∷ bytes) e some = refl

kept_none : (line begun : List ℕ) → line ≡ take 4097 begun → length line ≡ 0 → begun ≡ []
kept_none line [] e none = refl
kept_none line (b ∷ bytes) e none = let h = ap length e in absurd (omega (arith, h))

-- the last line, that no line feed ends, was answered
pub answered_last : (first seen new : Machine) (line taken : List ℕ) (outcomes : List Outcome)
    (outcome : Outcome) → Progress first seen line taken outcomes → 0 < length line
    → FollowsLine seen (begun taken ++ []) outcome new
    → (last : Machine) × Run first (script_lines taken) (outcomes ++ outcome ∷ []) last × StandsFor new last
unfolding FollowsLine
answered_last first seen new line taken outcomes outcome at some follows =
    let next = follows at.state at.shown in
    let step : Step at.state (begun taken) outcome next.0 = rw append-nil at next.1 in
    let whole : script_lines taken ≡ ended_lines taken ++ begun taken ∷ [] =
    script_lines-split taken ∙ ap (λ rest. ended_lines taken ++ rest) (kept_some line (begun taken) at.kept some) in (
      next.0,
      rw whole (run-more first at.state next.0 (ended_lines taken) outcomes
          (begun taken) outcome at.run step),
      next.2,
    )

-- no line is begun
pub all_ended : (first seen : Machine) (line taken : List ℕ) (outcomes : List Outcome)
    → Progress first seen line taken outcomes → length line ≡ 0
    → (last : Machine) × Run first (script_lines taken) outcomes last × StandsFor seen last
all_ended first seen line taken outcomes at none =
    let whole : script_lines taken ≡ ended_lines taken =
    script_lines-split taken ∙ rw (kept_none line (begun taken) at.kept none) (append-nil (ended_lines taken)) in
    (at.state, rw whole at.run, at.shown)

pub run_text-one : (outcome : Outcome) → run_text (outcome ∷ []) ≡ outcome_text outcome
run_text-one outcome = append-nil (outcome_text outcome)

-- no bytes are taken
pub goes_none : (session : Session) (written : Option (List ℕ)) → Goes session session [] written written
goes_none session written = λ first taken outcomes at.
    ([], rw (append-nil, append-nil) at, wrote_none written session.pending)

-- bytes are taken after others
pub goes_on : (one two three : Session) (bytes more all : List ℕ) (before mid after : Option (List ℕ))
    → all ≡ bytes ++ more
    → Goes one two bytes before mid → Goes two three more mid after → Goes one three all before after
goes_on one two three bytes more all before mid after e goes goes_more = λ first taken outcomes at.
    let a = goes first taken outcomes at in
    let b = goes_more first (taken ++ bytes) (outcomes ++ a.0) a.1 in (
      a.0 ++ b.0,
      rw (e, ← append_assoc, ← append_assoc) b.1,
      rw (run_text-append a.0 b.0) (wrote_more before mid after one.pending two.pending three.pending (run_text a.0)
          (run_text b.0) a.2 b.2),
    )

-- a stretch without a line feed is kept after others
pub goes_kept : (one two : Session) (bytes more all kept : List ℕ) (before after : Option (List ℕ))
    → all ≡ bytes ++ more → Goes one two bytes before after
    → IsUnfed more → kept ≡ take 4097 (two.line.items ++ more)
    → (first : Machine) (taken : List ℕ) (outcomes : List Outcome) → IsAt first one taken outcomes
    → (x : List Outcome) × Progress first two.runtime.machine kept (taken ++ all) (outcomes ++ x)
    × Wrote before after one.pending two.pending (run_text x)
goes_kept one two bytes more all kept before after e goes unfed line first taken outcomes at =
    let a = goes first taken outcomes at in
    let last = kept_on first two.runtime.machine two.line.items kept (taken ++ bytes) more (outcomes ++ a.0) a.1 unfed
    line in
    (a.0, rw (e, ← append_assoc) (rw append-nil at last), a.2)

-- a line that a line feed ended was answered
pub goes_line : (old : Session) (new : Machine) (line left rest : List ℕ) (outcome : Outcome)
    (before after : Option (List ℕ)) → IsUnfed rest
    → ((begun : List ℕ) → old.line.items ≡ take 4097 begun
    → FollowsLine old.runtime.machine (begun ++ rest) outcome new)
    → line ≡ []
    → Wrote before after old.pending left (outcome_text outcome)
    → (first : Machine) (taken : List ℕ) (outcomes : List Outcome) → IsAt first old taken outcomes
    → (more : List Outcome) × Progress first new line (taken ++ (rest ++ 10 ∷ [])) (outcomes ++ more)
    × Wrote before after old.pending left (run_text more)
goes_line old new line left rest outcome before after unfed follows none wrote first taken outcomes at = (
  outcome ∷ [],
  rw none (answered_line first old.runtime.machine new old.line.items taken rest outcomes outcome at unfed
      (follows (begun taken) at.kept)),
  rw (run_text-one outcome) wrote,
)

-- writing stopped after more had been answered
pub stops_on : (one two : Session) (bytes next rest piece : List ℕ) (before mid after : Option (List ℕ))
    → piece ≡ bytes ++ (next ++ rest)
    → Goes one two bytes before mid → Stops two next mid after → Stops one piece before after
stops_on one two bytes next rest piece before mid after e goes stops = λ first taken outcomes at.
    let a = goes first taken outcomes at in
    let s = stops first (taken ++ bytes) (outcomes ++ a.0) a.1 in
    record {
      part = bytes ++ s.part;
      rest = s.rest ++ rest;
      cut = rw (e, s.cut, append_assoc, append_assoc) refl;
      more = a.0 ++ s.more;
      last = s.last;
      run = rw (← append_assoc, ← append_assoc) s.run;
      wrote = rw (run_text-append a.0 s.more) (wrote_some before mid after one.pending two.pending (run_text a.0)
          (run_text s.more) a.2 s.wrote);
    }

-- the reply to a line that a line feed ended was written in part
pub stops_line : (old : Session) (new : Machine) (rest : List ℕ) (outcome : Outcome) (before after : Option (List ℕ))
    → IsUnfed rest
    → ((begun : List ℕ) → old.line.items ≡ take 4097 begun
    → FollowsLine old.runtime.machine (begun ++ rest) outcome new)
    → WroteSome before after (old.pending ++ outcome_text outcome) → Stops old (rest ++ 10 ∷ []) before after
stops_line old new rest outcome before after unfed follows wrote = λ first taken outcomes at.
    let next = answered_line first old.runtime.machine new old.line.items taken rest outcomes outcome at unfed
    (follows (begun taken) at.kept) in
    record {
      part = rest ++ 10 ∷ [];
      rest = [];
      cut = sym (append-nil (rest ++ 10 ∷ []));
      more = outcome ∷ [];
      last = next.state;
      run = next.run;
      wrote = rw (run_text-one outcome) wrote;
    }

-- the end of the script with a line begun
pub ends_line : (old : Session) (new : Machine) (left : List ℕ) (outcome : Outcome) (before after : Option (List ℕ))
    → 0 < length old.line.items
    → ((begun : List ℕ) → old.line.items ≡ take 4097 begun → FollowsLine old.runtime.machine (begun ++ []) outcome new)
    → Wrote before after old.pending left (outcome_text outcome)
    → (first : Machine) (taken : List ℕ) (outcomes : List Outcome) → IsAt first old taken outcomes
    → (more : List Outcome) × (last : Machine) × Run first (script_lines taken) (outcomes ++ more) last
    × StandsFor new last × Wrote before after old.pending left (run_text more)
ends_line old new left outcome before after some follows wrote first taken outcomes at =
    let last = answered_last first old.runtime.machine new old.line.items taken outcomes outcome at some
    (follows (begun taken) at.kept) in
    (outcome ∷ [], last.0, last.1, last.2, rw (run_text-one outcome) wrote)

-- and with none
pub ends_none : (session : Session) (written : Option (List ℕ)) → length session.line.items ≡ 0
    → Ends session session written written
ends_none session written none = λ first taken outcomes at.
    let last = all_ended first session.runtime.machine session.line.items taken outcomes at none in
    ([], last.0, rw append-nil last.1, last.2, wrote_none written session.pending)

-- the reply to the last line was written in part
pub stops_last : (old : Session) (new : Machine) (outcome : Outcome) (before after : Option (List ℕ))
    → 0 < length old.line.items
    → ((begun : List ℕ) → old.line.items ≡ take 4097 begun → FollowsLine old.runtime.machine (begun ++ []) outcome new)
    → WroteSome before after (old.pending ++ outcome_text outcome) → StopsLast old before after
stops_last old new outcome before after some follows wrote = λ first taken outcomes at.
    let last = answered_last first old.runtime.machine new old.line.items taken outcomes outcome at some
    (follows (begun taken) at.kept) in
    record { more = outcome ∷ []; last = last.0; run = last.1; wrote = rw (run_text-one outcome) wrote }

-- ---- the line that is done

-- no line was begun
pub follows_rest : (old new : Machine) (line rest begun : List ℕ) (outcome : Outcome) → length line ≡ 0
    → line ≡ take 4097 begun → FollowsLine old rest outcome new → FollowsLine old (begun ++ rest) outcome new
follows_rest old new line rest begun outcome none kept follows = rw (kept_none line begun kept none) follows

-- what is kept of a line does for the whole line
pub follows_whole : (old new : Machine) (line kept rest begun : List ℕ) (outcome : Outcome) → line ≡ take 4097 begun
    → kept ≡ take 4097 (line ++ rest) → FollowsLine old kept outcome new → FollowsLine old (begun ++ rest) outcome new
unfolding FollowsLine
follows_whole old new line kept rest begun outcome e is follows m stands =
    let next = follows m stands in
    let same : kept ≡ take 4097 (begun ++ rest) = is
    ∙ (ap (λ front. take 4097 (front ++ rest)) e ∙ take-kept 4097 begun rest) in
    (next.0, whole_line m next.0 (begun ++ rest) outcome (rw same at next.1), next.2)

-- so many bytes as there is room for
pub kept_front : (line more : List ℕ) (n : ℕ) → length line ≤ n
    → line ++ take (min (length more) (n - length line)) more ≡ take n (line ++ more)
kept_front line more n le =
    let split : n ≡ length line + (n - length line) = omega arith in
    ap (λ rest. line ++ rest) (take-min (n - length line) more)
    ∙ (sym (take-append-add line more (n - length line)) ∙ ap (λ k. take k (line ++ more)) (sym split))

-- ---- all that waits is written

-- two facts of one success
pub both_ok : {V E : Type 0} (P Q : Type 0) (r : Result V E) → OnOk r P → OnOk r Q → OnOk r (P × Q)
both_ok P Q (Ok v) p q = (p, q)
both_ok P Q (Err e) p q = tt

-- what waited is written after a text
pub wrote_flushed : (before mid after : Option (List ℕ)) (waiting left text : List ℕ)
    → Wrote before mid waiting left text → Appended mid after left → Wrote before after waiting [] text
wrote_flushed before mid after waiting left text a b = record {
  out = a.out ++ left;
  appended = appended_more before mid after a.out left _ a.appended b refl;
  kept = rw append-nil a.kept;
}

-- a part of what waited is written after a text
pub some_flushed : (before mid after : Option (List ℕ)) (waiting left text : List ℕ)
    → Wrote before mid waiting left text → WroteSome mid after left → WroteSome before after (waiting ++ text)
some_flushed before mid after waiting left text a b = record {
  count = length a.out + b.count;
  appended = rw (← a.kept) (appended_more before mid after a.out (take b.count left) _ a.appended b.appended
      (sym (take-append-add a.out left b.count)));
}

pub goes_flushed : (one two : Session) (bytes : List ℕ) (before mid after : Option (List ℕ))
    → Goes one two bytes before mid → Appended mid after two.pending
    → (first : Machine) (taken : List ℕ) (outcomes : List Outcome) → IsAt first one taken outcomes
    → (more : List Outcome) × IsAt first two (taken ++ bytes) (outcomes ++ more)
    × Wrote before after one.pending [] (run_text more)
goes_flushed one two bytes before mid after goes flushed first taken outcomes at =
    let a = goes first taken outcomes at in
    (a.0, a.1, wrote_flushed before mid after one.pending two.pending (run_text a.0) a.2 flushed)

pub stops_flushed : (one two : Session) (bytes : List ℕ) (before mid after : Option (List ℕ))
    → Goes one two bytes before mid → WroteSome mid after two.pending → Stops one bytes before after
stops_flushed one two bytes before mid after goes some = λ first taken outcomes at.
    let a = goes first taken outcomes at in
    record {
      part = bytes;
      rest = [];
      cut = sym (append-nil bytes);
      more = a.0;
      last = a.1.state;
      run = a.1.run;
      wrote = some_flushed before mid after one.pending two.pending (run_text a.0) a.2 some;
    }

pub ends_flushed : (one two : Session) (before mid after : Option (List ℕ)) → Ends one two before mid
    → Appended mid after two.pending → EndsWritten one two before after
ends_flushed one two before mid after ends flushed = λ first taken outcomes at.
    let a = ends first taken outcomes at in
    (a.0, a.1, a.2, a.3, wrote_flushed before mid after one.pending two.pending (run_text a.0) a.4 flushed)

pub stops_last_flushed : (one two : Session) (before mid after : Option (List ℕ)) → Ends one two before mid
    → WroteSome mid after two.pending → StopsLast one before after
stops_last_flushed one two before mid after ends some = λ first taken outcomes at.
    let a = ends first taken outcomes at in
    record {
      more = a.0;
      last = a.1;
      run = a.2;
      wrote = some_flushed before mid after one.pending two.pending
          (run_text a.0) a.4 some;
    }

-- the highest end of a reservation in the opening state
pub opening_top : (options : Options) (seen : Machine) → StandsFor seen (opening options)
    → seen.layout.top ≡ 0x10000000 + 2 * options.segment
unfolding opening
opening_top options seen stands = sym (ap (λ (m : Machine). m.layout.top) stands.seen_is)
