-- Lines that end, and the line that is begun.
use Rattle.std.proofs.Common.{◌≡◌, ◌==◌, ℕ, Bool, true, false, List, [], ◌∷◌, ◌++◌, take, refl, sym, ap, subst, ◌∙◌}
use Rattle.std.proofs.Common.{arith, if◌then◌else◌, append_assoc, append-nil, length-take}
use Rattle.std.proofs.lemmas.List.{take_all}
use Rattle.std.proofs.lemmas.Bool.{ne_eqb}
use Rattle.std.proofs.lemmas.Grind.{flat_map-append}
use Rattle.clr_model.specs.Machine.{Machine}
use Rattle.clr_model.specs.LineGrammar.{script_lines, ended_lines, onto_first, onto_first_ended}
use Rattle.clr_model.specs.Outcomes.{Outcome, outcome_text}
use Rattle.clr_lines.specs.Lines.{Step, too_long, no_syntax, obeyed, Reads}
use Rattle.clr_session.specs.Runs.{Run, run_text}
use Rattle.clr_session.specs.Progress.{begun, begun_on}
use Rattle.clr_script.specs.Fronts.{IsUnfed}

ended_on : (ends : Bool) (b : ℕ) (ended : List (List ℕ)) (line : List ℕ) →
    (if ends then [] ∷ (ended ++ line ∷ []) else onto_first_ended b (ended ++ line ∷ []))
    ≡ (if ends then [] ∷ ended else onto_first_ended b ended) ++ begun_on ends b ended line ∷ []
ended_on true b [] line = refl
ended_on true b (l ∷ ls) line = refl
ended_on false b [] line = refl
ended_on false b (l ∷ ls) line = refl

-- a line feed ends the line that is begun
pub ended_lines-feed : (bytes : List ℕ) → ended_lines (bytes ++ 10 ∷ []) ≡ ended_lines bytes ++ begun bytes ∷ []
ended_lines-feed [] = refl
ended_lines-feed (b ∷ bytes) = rw (ended_lines-feed bytes) (ended_on (b == 10) b (ended_lines bytes) (begun bytes))

-- another byte ends none
pub ended_lines-byte : (bytes : List ℕ) (c : ℕ) → (c ≡ 10 → ⊥) → ended_lines (bytes ++ c ∷ []) ≡ ended_lines bytes
ended_lines-byte [] c other = rw (ne_eqb c 10 other) refl
ended_lines-byte (b ∷ bytes) c other = rw (ended_lines-byte bytes c other) refl

none_begun : (ends : Bool) (b : ℕ) (ended : List (List ℕ)) (line : List ℕ)
    → begun_on ends b (ended ++ line ∷ []) [] ≡ []
none_begun ends b [] line = refl
none_begun ends b (l ∷ ls) line = refl

pub begun-feed : (bytes : List ℕ) → begun (bytes ++ 10 ∷ []) ≡ []
begun-feed [] = refl
begun-feed (b ∷ bytes) = rw (ended_lines-feed bytes, begun-feed bytes)
    (none_begun (b == 10) b (ended_lines bytes) (begun bytes))

begun_more : (ends : Bool) (b : ℕ) (ended : List (List ℕ)) (line : List ℕ) (c : ℕ)
    → begun_on ends b ended (line ++ c ∷ []) ≡ begun_on ends b ended line ++ c ∷ []
begun_more true b [] line c = refl
begun_more false b [] line c = refl
begun_more ends b (l ∷ ls) line c = refl

pub begun-byte : (bytes : List ℕ) (c : ℕ) → (c ≡ 10 → ⊥) → begun (bytes ++ c ∷ []) ≡ begun bytes ++ c ∷ []
begun-byte [] c other = rw (ne_eqb c 10 other) refl
begun-byte (b ∷ bytes) c other =
    rw (ended_lines-byte bytes c other, begun-byte bytes c other)
    (begun_more (b == 10) b (ended_lines bytes) (begun bytes) c)

-- the line that is begun, if there is one
abbrev pub last_line : List ℕ → List (List ℕ)
last_line [] = []
last_line (b ∷ bytes) = (b ∷ bytes) ∷ []

lines_on : (ends : Bool) (b : ℕ) (ended : List (List ℕ)) (line : List ℕ) →
    (if ends then [] ∷ (ended ++ last_line line) else onto_first b (ended ++ last_line line))
    ≡ (if ends then [] ∷ ended else onto_first_ended b ended) ++ last_line (begun_on ends b ended line)
lines_on true b [] line = refl
lines_on true b (l ∷ ls) line = refl
lines_on false b [] [] = refl
lines_on false b [] (c ∷ line) = refl
lines_on false b (l ∷ ls) line = refl

-- the lines of a script are those that ended and the one that is begun
pub script_lines-split : (bytes : List ℕ) → script_lines bytes ≡ ended_lines bytes ++ last_line (begun bytes)
script_lines-split [] = refl
script_lines-split (b ∷ bytes) = rw (script_lines-split bytes) (lines_on (b == 10) b (ended_lines bytes) (begun bytes))

-- a run goes on by one step
pub run-more : (old mid new : Machine) (done : List (List ℕ)) (outcomes : List Outcome) (line : List ℕ)
    (outcome : Outcome) →
    Run old done outcomes mid → Step mid line outcome new → Run old (done ++ line ∷ []) (outcomes ++ outcome ∷ []) new
run-more old mid new [] [] line outcome run step = (new, rw (← run) step, refl)
run-more old mid new [] (a ∷ rest) line outcome run step = absurd run
run-more old mid new (l ∷ ls) [] line outcome run step = absurd run
run-more old mid new (l ∷ ls) (a ∷ rest) line outcome run step =
    (run.0, run.1, run-more run.0 mid new ls rest line outcome run.2 step)

pub run_text-append : (some more : List Outcome) → run_text (some ++ more) ≡ run_text some ++ run_text more
run_text-append some more = flat_map-append outcome_text some more

prefix_on : (ends : Bool) (b : ℕ) (ended : List (List ℕ)) (line more : List ℕ) → (b == 10) ≡ ends →
    (if ends then [] ∷ (ended ++ script_lines (line ++ more)) else onto_first b (ended ++ script_lines (line ++ more)))
    ≡ (if ends then [] ∷ ended else onto_first_ended b ended) ++ script_lines (begun_on ends b ended line ++ more)
prefix_on true b [] line more e = refl
prefix_on true b (l ∷ ls) line more e = refl
prefix_on false b [] line more e = rw e refl
prefix_on false b (l ∷ ls) line more e = refl

-- the lines that ended stay the first ones
pub script_lines-append : (bytes more : List ℕ)
    → script_lines (bytes ++ more) ≡ ended_lines bytes ++ script_lines (begun bytes ++ more)
script_lines-append [] more = refl
script_lines-append (b ∷ bytes) more = rw (script_lines-append bytes more)
    (prefix_on (b == 10) b (ended_lines bytes) (begun bytes) more refl)

-- ---- stretches without a line feed

pub ended_lines-unfed : (bytes more : List ℕ) → IsUnfed more → ended_lines (bytes ++ more) ≡ ended_lines bytes
ended_lines-unfed bytes [] free = ap ended_lines (append-nil bytes)
ended_lines-unfed bytes (b ∷ more) free =
    ap ended_lines (sym (append_assoc bytes (b ∷ []) more))
    ∙ (ended_lines-unfed (bytes ++ (b ∷ [])) more free.1 ∙ ended_lines-byte bytes b free.0)

pub begun-unfed : (bytes more : List ℕ) → IsUnfed more → begun (bytes ++ more) ≡ begun bytes ++ more
begun-unfed bytes [] free = ap begun (append-nil bytes) ∙ sym (append-nil (begun bytes))
begun-unfed bytes (b ∷ more) free =
    ap begun (sym (append_assoc bytes (b ∷ []) more))
    ∙ (begun-unfed (bytes ++ (b ∷ [])) more free.1
    ∙ (ap (λ line. line ++ more) (begun-byte bytes b free.0) ∙ append_assoc (begun bytes) (b ∷ []) more))

-- a line feed behind such a stretch ends the line that was begun and the stretch
pub ended_lines-line : (bytes more : List ℕ) → IsUnfed more
    → ended_lines (bytes ++ (more ++ 10 ∷ [])) ≡ ended_lines bytes ++ (begun bytes ++ more) ∷ []
ended_lines-line bytes more free =
    ap ended_lines (sym (append_assoc bytes more (10 ∷ [])))
    ∙ (ended_lines-feed (bytes ++ more)
    ∙ (ap (λ lines. lines ++ begun (bytes ++ more) ∷ []) (ended_lines-unfed bytes more free)
    ∙ ap (λ line. ended_lines bytes ++ line ∷ []) (begun-unfed bytes more free)))

pub begun-line : (bytes more : List ℕ) → begun (bytes ++ (more ++ 10 ∷ [])) ≡ []
begun-line bytes more = ap begun (sym (append_assoc bytes more (10 ∷ []))) ∙ begun-feed (bytes ++ more)

-- ---- what is kept of a long line

-- what is kept of a line does for the whole line
pub whole_line : (old new : Machine) (line : List ℕ) (outcome : Outcome) → Step old (take 4097 line) outcome new
    → Step old line outcome new
whole_line old new line outcome (too_long long is stays) =
    let l = length-take 4097 line in too_long (omega (arith, l)) is stays
whole_line old new line outcome (no_syntax short none is stays) =
    no_syntax
    (let l = length-take 4097 line in omega (arith, l))
    (λ i r. let l = r.short in none i (subst (λ (bytes : List ℕ). Reads bytes i)
    (sym (take_all 4097 line (omega arith))) r)) is stays
whole_line old new line outcome (obeyed i r obeys) =
    let s = r.short in
    let l = length-take 4097 line in
    obeyed i (subst (λ (bytes : List ℕ). Reads bytes i) (take_all 4097 line (omega (arith, l))) r) obeys
