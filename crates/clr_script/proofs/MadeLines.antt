-- Made scripts: what is left of one, and what its lines are.
use Rattle.std.proofs.Common.{◌≡◌, ◌∙◌, ℕ, zero, suc, ◌+◌, ◌-◌, ◌<◌, ◌≤◌, List, [], ◌∷◌, ◌++◌}
use Rattle.std.proofs.Common.{length, map, refl, ap, arith, rules, Some, None, true, false, Bool}
use Rattle.std.proofs.Common.{append_assoc, codes, ◌↔◌}
use Rattle.std.specs.Prelude.{slice_get, nat_le, ◌==◌, if◌then◌else◌}
use Rattle.std.specs.List.{AllByRecursion}
use Rattle.std.proofs.lemmas.List.{length-map}
use Rattle.clr_types.proofs.ChangedLists.{all-map, all_imply}
use Rattle.clr_types.proofs.ListMembers.{both_all}
use Rattle.clr_model.specs.declared.How.TheVariants.{Decide}
use Rattle.clr_model.specs.Instructions.{new_object, set_slot, clear_local, collect_heap}
use Rattle.clr_model.specs.LineGrammar.{spelling, IsWellFormed, IsWord}
use Rattle.clr_model.specs.ReplyText.{spaced}
use Rattle.clr_script.specs.Made.{drawn, state_after, draw, made_types, made_use, uses_from}
use Rattle.clr_script.specs.Made.{use_from, state_behind, made_instructions, lines_left, MadeLinesLaw, MadeLengthLaw}

-- ---- draws

pub drawn-below : (k x : ℕ) → 0 < k → drawn k x < k
unfolding drawn
drawn-below k x some = omega arith

-- ---- words

spaced-behind : (first : List ℕ) (more : List (List ℕ)) (last : List ℕ)
    → spaced (first ∷ more) ++ 32 ∷ last ≡ spaced (first ∷ (more ++ last ∷ []))
spaced-behind first [] last = refl
spaced-behind first (next ∷ more) last = append_assoc first (32 ∷ spaced (next ∷ more)) (32 ∷ last)
    ∙ ap (λ (l : List ℕ). first ++ 32 ∷ l) (spaced-behind next more last)

-- a space and a word behind words
pub word_behind : (first : List ℕ) (more : List (List ℕ)) (last : List ℕ) {before after : List ℕ}
    → before ≡ spaced (first ∷ more) → after ≡ before ++ 32 ∷ last → after ≡ spaced (first ∷ (more ++ last ∷ []))
word_behind first more last words word =
    word ∙ (ap (λ (l : List ℕ). l ++ 32 ∷ last) words ∙ spaced-behind first more last)

-- ---- what is left

-- while types are to be defined, the next line is that of the next type
pub type_left : (types n x : ℕ) (line : List ℕ) → types < 3 → slice_get (map spelling made_types) types ≡ Some line
    → lines_left types n x ≡ line ∷ lines_left (types + 1) n x
type_left types n x line low is = go types low is
  where
    same : (one other : List ℕ) (lines : List (List ℕ)) → Some one ≡ Some other → one ∷ lines ≡ other ∷ lines
    same one other lines e = cc

    go : (i : ℕ) → i < 3 → slice_get (map spelling made_types) i ≡ Some line
        → lines_left i n x ≡ line ∷ lines_left (i + 1) n x
    go zero _ e = same _ _ _ e
    go (suc zero) _ e = same _ _ _ e
    go (suc (suc zero)) _ e = same _ _ _ e
    go (suc (suc (suc i))) h e = absurd (omega arith)

-- then come the lines that are drawn
pub use_left : (types n x next : ℕ) (line : List ℕ) → types ≡ 3 → 0 < n → line ≡ spelling (use_from x)
    → next ≡ state_behind x → lines_left types n x ≡ line ∷ lines_left types (n - 1) next
use_left types zero x next line all some drawn_so behind = absurd (omega arith)
use_left types (suc n) x next line all some drawn_so behind =
    let one_less : suc n - 1 ≡ n = omega arith in
    rw (all, one_less, drawn_so, behind) refl

-- and then no line
pub none_left : (types n x : ℕ) → types ≡ 3 → n ≡ 0 → lines_left types n x ≡ []
none_left types n x all none = rw (all, none) refl

-- where a line was written, there was one
pub some_line : (old more : List (List ℕ)) (line : List ℕ) (count : ℕ) → 0 < count → old ≡ line ∷ more
    → (count ≡ 0) ↔ (old ≡ [])
some_line old more line count some is = (λ none. absurd (omega arith), λ none. absurd (cc))

-- ---- laws

use-formed : (a t k j len g : ℕ) → IsWord t → IsWord k → IsWord j → IsWord len → g ≤ 2
    → IsWellFormed (made_use a t k j len g)
use-formed a t k j len g thread local other long young =
    go (nat_le a 1) (a == 2) (a == 3) (nat_le a 5) (a == 6)
  where
    go : (one two three four five : Bool) → IsWellFormed
        (if one then new_object t k (codes "Node") None
        else (if two then new_object t k (codes "byte[]") (Some len)
        else (if three then new_object t k (codes "File") None
        else (if four then set_slot t k 0 j
        else (if five then clear_local t k
        else collect_heap t g Decide)))))
    go true _ _ _ _ = search rules
    go false true _ _ _ = search rules
    go false false true _ _ = search rules
    go false false false true _ = (thread, local, omega arith, other)
    go false false false false true = (thread, local)
    go false false false false false = (thread, young)

uses-formed : (n x : ℕ) → AllByRecursion IsWellFormed (uses_from n x)
uses-formed zero x = tt
uses-formed (suc n) x =
    let thread : draw 3 1 x < 3 = drawn-below 3 (state_after 1 x) (omega arith) in
    let local : draw 8 3 x < 8 = drawn-below 8 (state_after 3 x) (omega arith) in
    let other : draw 8 4 x < 8 = drawn-below 8 (state_after 4 x) (omega arith) in
    let long : draw 2000 5 x < 2000 = drawn-below 2000 (state_after 5 x) (omega arith) in
    let young : draw 3 5 x < 3 = drawn-below 3 (state_after 5 x) (omega arith) in (
      use-formed (draw 8 2 x) (1 + draw 3 1 x) (draw 8 3 x) (draw 8 4 x) (draw 2000 5 x) (draw 3 5 x) (omega arith)
          (omega arith) (omega arith) (omega arith) (omega arith),
      uses-formed n (state_behind x),
    )

types-formed : AllByRecursion IsWellFormed made_types
types-formed = search rules

pub lines_are_lines : MadeLinesLaw
lines_are_lines seed n =
    all-map spelling _ (made_instructions seed n) (all_imply IsWellFormed _ (made_instructions seed n)
    (λ i formed. (i, record { formed = formed; spelled = refl }))
    (both_all IsWellFormed made_types (uses_from n seed) types-formed (uses-formed n seed)))

uses-length : (n x : ℕ) → length (uses_from n x) ≡ n
uses-length zero x = refl
uses-length (suc n) x = ap suc (uses-length n (state_behind x))

pub lines_are_counted : MadeLengthLaw
lines_are_counted seed n =
    omega (arith, length-map (made_instructions seed n) spelling, uses-length n seed)
