-- What the line in front of a text does, from what its instruction does.
use Rattle.std.proofs.Common.{◌≡◌, ◌≤◌, ◌-◌, ◌+◌, ◌∙◌, ℕ, List, ◌∷◌, ◌++◌, ap, append_assoc, arith, drop, length}
use Rattle.std.proofs.Common.{length-drop, subst, Option, MatchOption}
use Rattle.std.proofs.Common.{sym, take}
use Rattle.std.proofs.Common.{length-append, length-take, min, refl, inl, inr}
use Rattle.std.proofs.lemmas.List.{drop-drop, drop_at, take-append-drop, take_all, take_rest}
use Rattle.std.proofs.lemmas.Bool.{cases_lt}
use Rattle.clr_model.specs.LineGrammar.{spelling, thread_word}
use Rattle.clr_model.specs.Machine.{Machine}
use Rattle.clr_lines.specs.Fronts.{IsAnswered, IsDone}
use Rattle.clr_lines.proofs.LineSteps.{line_follows}

-- as many bytes as there are, and no more than so many
pub take-min : (k : ℕ) (more : List ℕ) → take (min (length more) k) more ≡ take k more
take-min k more = elim (cases_lt k (length more)) [
  | inl lt ↦ ap (λ n. take n more) (let e : min (length more) k ≡ k = omega arith in e)
  | inr ge ↦
      let e : min (length more) k ≡ length more = omega arith in
      ap (λ n. take n more) e ∙ (take_all (length more) more (omega arith) ∙ sym (take_all k more ge))
]

-- the bytes of the line and the rest
pub line_and_rest : {old new : Machine} {text rest reply : List ℕ} → (done : IsDone old text rest reply new)
    → length text ≡ length (spelling done.instruction) + (1 + length rest)
line_and_rest {text = text} {rest = rest} done =
    let line = spelling done.instruction in
    let e = ap length done.front.cut in
    let l : length (line ++ (10 ∷ rest)) ≡ length line + length (10 ∷ rest) = length-append line (10 ∷ rest) in
    omega (arith, e, l)

-- a line that ends among the first bytes isn't too long
pub near_answered : (old new : Machine) (text reply : List ℕ) (read : ℕ) → read ≤ 4097 → read ≤ length text
    → IsDone old text (drop read text) reply new
    → IsAnswered old text read reply new
near_answered old new text reply read near within done =
    let line = spelling done.instruction in
    let whole = line_and_rest done in
    let left = length-drop read text in
    let count : read ≡ length line + 1 = omega (arith, whole, left, within) in
    record {
      line = line;
      rest = drop read text;
      cut = done.front.cut;
      read_is = count;
      unfed = done.front.unfed;
      outcome = done.outcome;
      follows = line_follows old new line done.instruction done.outcome (omega (arith, count, near))
          (record { formed = done.front.formed; spelled = refl }) done.follows;
      told = done.told;
    }

-- ---- verbs

-- what stands behind three bytes
pub behind_three : (text more : List ℕ) (at a b c : ℕ) → drop at text ≡ a ∷ b ∷ c ∷ more
    → drop at text ≡ a ∷ b ∷ c ∷ drop (at + 3) text
behind_three text more at a b c is =
    let left : drop (at + 3) text ≡ more = sym (drop-drop 3 at text) ∙ ap (drop 3) is in
    is ∙ ap (λ (l : List ℕ). a ∷ b ∷ c ∷ l) (sym left)

-- what a line did whose verb stands at a place
pub verb_told : (result : Option (ℕ × ℕ)) (old new : Machine) (idle : Type 0) (t : ℕ) (text verb words into : List ℕ)
    (at : ℕ) → drop at text ≡ verb ++ words
    → MatchOption result idle (λ p. IsDone old (thread_word t ++ ((32 ∷ verb) ++ words)) (drop p.1 text)
    (take p.0 into) new)
    → MatchOption result idle (λ p. IsDone old (thread_word t ++ 32 ∷ drop at text) (drop p.1 text) (take p.0 into) new)
verb_told result old new idle t text verb words into at is told =
    subst (λ (l : List ℕ). MatchOption result idle (λ p. IsDone old (thread_word t ++ 32 ∷ l) (drop p.1 text)
    (take p.0 into) new)) (sym is) told

-- what is left of a text is found by its length
left_is : (text front rest : List ℕ) (at end : ℕ) → at ≤ length text → end ≡ length text - length rest
    → drop at text ≡ front ++ rest
    → rest ≡ drop end text
left_is text front rest at end within ends is =
    let whole : text ≡ (take at text ++ front) ++ rest =
    sym (take-append-drop at text) ∙ (ap (λ (l : List ℕ). take at text ++ l) is
    ∙ sym (append_assoc (take at text) front rest)) in
    let sizes = ap length whole in
    let parts = length-append (take at text ++ front) rest in
    let count : length (take at text ++ front) ≡ end = omega (arith, sizes, parts, ends) in
    sym (ap (drop end) whole ∙ drop_at (take at text ++ front) rest end count)

-- a line that was done of what is left from a place on
pub done_left : {old new : Machine} {reply : List ℕ} → (text front rest verb : List ℕ) (at end t : ℕ)
    → at ≤ length text → end ≡ length text - length rest
    → take (length text - at) (drop at text) ≡ front ++ rest
    → IsDone old (thread_word t ++ ((32 ∷ verb) ++ take (length text - at) (drop at text))) rest reply new
    → IsDone old (thread_word t ++ ((32 ∷ verb) ++ drop at text)) (drop end text) reply new
done_left {old} {new} {reply} text front rest verb at end t within ends is done =
    let words = take_rest text at in
    subst (λ (l : List ℕ). IsDone old (thread_word t ++ ((32 ∷ verb) ++ l)) (drop end text) reply new) words
    (subst (λ (l : List ℕ).
    IsDone old (thread_word t ++ ((32 ∷ verb) ++ take (length text - at) (drop at text))) l reply new)
    (left_is text front rest at end within ends (sym words ∙ is)) done)
