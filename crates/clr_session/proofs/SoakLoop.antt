-- The loop over the lines of a generated script, and what comes of it.
use Rattle.std.proofs.Common.{◌≡◌, ◌∙◌, ℕ, cond, ◌+◌, ◌≤◌, List, [], ◌∷◌, ◌++◌, length, refl, sym, ap, subst, arith}
use Rattle.std.proofs.Common.{take, Option}
use Rattle.std.proofs.Common.{append_assoc, append-nil, length-append, Bool, true, false}
use mir.Val.{bool_byte}
use Rattle.std.proofs.lemmas.List.Sums.{sum_by-append}
use Rattle.clr_model.specs.Machine.{Machine, Options}
use Rattle.clr_model.specs.Outcomes.{Outcome}
use Rattle.clr_model.specs.Picture.{picture}
use Rattle.clr_model.specs.Run.{StandsFor, opening}
use Rattle.clr_script.specs.Made.{made_lines}
use Rattle.clr_lines.specs.Lines.{FollowsLine}
use Rattle.clr_streams.specs.Faults.{Appended}
use Rattle.clr_session.specs.Runs.{Run}
use Rattle.clr_session.specs.Soak.{is_refused, refused_count, soak_text, summary_text}
use Rattle.clr_session.specs.Soak.{FollowsLines, Soaked, SoakCutShort}
use Rattle.clr_session.proofs.LineLists.{run-more}

-- the first lines were run, these are left, and so many were run and refused
pub record Running (initial now : Machine) (lines left : List (List ℕ)) (count refusals : ℕ) : Type 0 where
  pub done : List (List ℕ)
  pub outcomes : List Outcome
  pub cut : lines ≡ done ++ left
  pub follows : FollowsLines initial done outcomes now
  pub counted : count ≡ length outcomes
  pub refused : refusals ≡ refused_count outcomes

no_lines : (initial : Machine) → FollowsLines initial [] [] initial
unfolding FollowsLines
no_lines initial m stands = (m, refl, stands)

pub started : (initial : Machine) (lines : List (List ℕ)) → Running initial initial lines lines 0 0
started initial lines = record {
  done = [];
  outcomes = [];
  cut = refl;
  follows = no_lines initial;
  counted = refl;
  refused = refl;
}

one_more : (initial now new : Machine) (done : List (List ℕ)) (outcomes : List Outcome) (line : List ℕ)
    (outcome : Outcome) → FollowsLines initial done outcomes now → FollowsLine now line outcome new
    → FollowsLines initial (done ++ line ∷ []) (outcomes ++ outcome ∷ []) new
unfolding FollowsLines FollowsLine
one_more initial now new done outcomes line outcome follows step m stands =
    let before = follows m stands in
    let next = step before.0 before.2 in
    (next.0, run-more m before.0 next.0 done outcomes line outcome before.1 next.1, next.2)

refused_count-append : (outcomes more : List Outcome)
    → refused_count (outcomes ++ more) ≡ refused_count outcomes + refused_count more
refused_count-append outcomes more = sum_by-append (λ o. cond (is_refused o) 1 0) outcomes more

-- a line was run
pub went_on : (initial now new : Machine) (lines left rest : List (List ℕ)) (count refusals one : ℕ) (line : List ℕ)
    (outcome : Outcome) → Running initial now lines left count refusals → left ≡ line ∷ rest
    → FollowsLine now line outcome new → one ≡ cond (is_refused outcome) 1 0
    → Running initial new lines rest (count + 1) (refusals + one)
went_on initial now new lines left rest count refusals one line outcome running first step is = record {
  done = running.done ++ line ∷ [];
  outcomes = running.outcomes ++ outcome ∷ [];
  cut = rw (append_assoc, ← first) running.cut;
  follows = one_more initial now new running.done running.outcomes line outcome running.follows step;
  counted =
      let c = running.counted in
      let l = length-append running.outcomes (outcome ∷ []) in
      omega (arith, c, l);
  refused =
      let r = running.refused in
      let a = refused_count-append running.outcomes (outcome ∷ []) in
      omega (arith, r, a, is);
}

-- each line leaves one line less
pub left_shorter : (left rest : List (List ℕ)) (line : List ℕ) → left ≡ line ∷ rest → length left ≡ length rest + 1
left_shorter left rest line first = let l : length left ≡ length (line ∷ rest) = ap length first in omega (arith, l)

-- what a refusal adds
pub one_if : (b : Bool) → bool_byte b ≡ cond b 1 0
one_if true = refl
one_if false = refl

pub one_most : (n : ℕ) (b : Bool) → n ≡ cond b 1 0 → n ≤ 1
one_most n true e = omega arith
one_most n false e = omega arith

-- no line is left
pub finished : (initial now : Machine) (lines left : List (List ℕ)) (count refusals : ℕ)
    → Running initial now lines left count refusals → left ≡ []
    → (outcomes : List Outcome) × FollowsLines initial lines outcomes now × (count ≡ length outcomes)
    × (refusals ≡ refused_count outcomes)
finished initial now lines left count refusals running none =
    let all : lines ≡ running.done = running.cut ∙ (ap (λ rest. running.done ++ rest) none ∙ append-nil running.done) in
    (running.outcomes, rw all running.follows, running.counted, running.refused)

-- ---- the whole

same_summary : (lines other refusals more : ℕ) (seen shown : Machine) → lines ≡ other → refusals ≡ more → shown ≡ seen
    → summary_text lines refusals seen ≡ summary_text other more shown
same_summary lines other refusals more seen shown l r s =
    ap (λ (x : ℕ). summary_text x refusals seen) l
    ∙ (ap (λ (x : ℕ). summary_text other x seen) r ∙ ap (λ (x : Machine). summary_text other more x) (sym s))

-- the lines of a generated script were run, and so many were run and refused
abbrev pub WereRun : Machine → ℕ → ℕ → ℕ → ℕ → Machine → Type 0
WereRun seen seed count lines refusals new = (outcomes : List Outcome)
    × FollowsLines seen (made_lines seed count) outcomes new × (lines ≡ length outcomes)
    × (refusals ≡ refused_count outcomes)

-- the lines are those of the script
pub of_made : (seen new : Machine) (seed count lines refusals : ℕ) (made : List (List ℕ)) → made ≡ made_lines seed count
    → (outcomes : List Outcome) × FollowsLines seen made outcomes new × (lines ≡ length outcomes)
    × (refusals ≡ refused_count outcomes)
    → WereRun seen seed count lines refusals new
of_made seen new seed count lines refusals made is told = subst (λ (ls : List (List ℕ)). (outcomes : List Outcome)
    × FollowsLines seen ls outcomes new × (lines ≡ length outcomes) × (refusals ≡ refused_count outcomes)) is told

module _ (options : Options) (seen new : Machine) (seed count lines refusals : ℕ)
    (opens : StandsFor seen (opening options))
    (were_run : WereRun seen seed count lines refusals new) where
  -- the run over these lines
  run_over : (last : Machine) × Run (opening options) (made_lines seed count) were_run.0 last × StandsFor new last
  unfolding FollowsLines
  run_over = were_run.1 (opening options) opens

  -- what is seen stands for its last state
  pub stands_for_last : (m : Machine) × StandsFor new m
  stands_for_last = (run_over.0, run_over.2)

  text_is : (text : List ℕ) → text ≡ summary_text lines refusals new → text ≡ soak_text were_run.0 run_over.0
  text_is text is =
      is ∙ same_summary lines _ refusals _ new (picture run_over.0) were_run.2 were_run.3 run_over.2.seen_is

  -- the summary was written
  pub soaked : (written after : Option (List ℕ)) (text : List ℕ) → text ≡ summary_text lines refusals new
      → Appended written after text → (soaked : Soaked options seed count written after) × StandsFor new soaked.last
  soaked written after text is wrote = (
    record {
      outcomes = were_run.0;
      last = run_over.0;
      run = run_over.1;
      wrote = subst (λ (t : List ℕ). Appended written after t) (text_is text is) wrote;
    },
    run_over.2,
  )

  -- or a part of it
  pub cut_short : (written after : Option (List ℕ)) (text : List ℕ) → text ≡ summary_text lines refusals new
      → (n : ℕ) × Appended written after (take n text) → SoakCutShort options seed count written after
  cut_short written after text is (n, wrote) = record {
    outcomes = were_run.0;
    last = run_over.0;
    run = run_over.1;
    part = n;
    wrote = subst (λ (t : List ℕ). Appended written after (take n t)) (text_is text is) wrote;
  }
