-- Lines in front of a text, put together of what was read of them.
use Rattle.std.proofs.Common.{◌≡◌, ◌≢◌, ◌∙◌, ℕ, ◌+◌, ◌%◌, ◌==◌, Bool, true, not, List, [], ◌∷◌, ◌++◌, refl, sym}
use Rattle.std.proofs.Common.{ap, subst, arith, append_assoc, Option, Some, None, IfSome, codes, decimal}
use Rattle.std.specs.Prelude.{IsTrue}
use Rattle.std.specs.List.{AllByRecursion, list_all}
use Rattle.std.proofs.lemmas.Bool.{and_parts}
use Rattle.std.proofs.lemmas.Fmt.{decimal_by_steps}
use Rattle.clr_types.proofs.ListMembers.{both_all}
use Rattle.clr_types.specs.declared.handle.Kind.{Kind}
use Rattle.clr_types.specs.declared.handle.Kind.TheVariants.{Strong, Pinned, Weak, WeakLong, Dependent}
use Rattle.clr_model.specs.Instructions.{Instruction, new_object}
use Rattle.clr_model.specs.LineGrammar.{is_name, is_name_byte, is_name_start, number_words, thread_word, local_word}
use Rattle.clr_model.specs.LineGrammar.{local_words, spelling, words_of, IsWellFormed, IsWord}
use Rattle.clr_model.specs.ReplyText.{kind_word, spaced}
use Rattle.clr_script.specs.Fronts.{behind, Continues, IsInFront, IsUnfed}
use Rattle.clr_script.proofs.SpelledLines.{spaced_behind}

-- ---- words without a line feed

-- bytes that pass a test which a line feed does not
all_unfed : (test : ℕ → Bool) → (test 10 ≡ true → ⊥) → (bytes : List ℕ) → list_all test bytes ≡ true → IsUnfed bytes
all_unfed test none [] h = tt
all_unfed test none (b ∷ bytes) h = let p = and_parts _ _ h in
    (λ e. none (subst (λ n. test n ≡ true) e p.0), all_unfed test none bytes p.1)

-- a word that is written out
pub text_unfed : (bytes : List ℕ) → list_all (λ b. not (b == 10)) bytes ≡ true → IsUnfed bytes
text_unfed bytes h = all_unfed (λ b. not (b == 10)) (λ e. cc) bytes h

-- a name
pub name_unfed : (name : List ℕ) → IsTrue (is_name name) → IsUnfed name
name_unfed [] h = tt
name_unfed (b ∷ bytes) h =
    let p = and_parts _ _ h in
    let q = and_parts _ _ p.0 in
    let first : is_name_start 10 ≡ true → ⊥ = λ e. cc in
    let other : is_name_byte 10 ≡ true → ⊥ = λ e. cc in
    (λ e. first (subst (λ n. is_name_start n ≡ true) e q.0), all_unfed is_name_byte other bytes q.1)

-- a number
pub number_unfed : (n : ℕ) → IsWord n → IsUnfed (decimal n)
number_unfed n fits = decimal_by_steps (λ n ds. IsUnfed ds)
    (λ n small. (λ e. omega arith, tt))
    (λ n ds large h. both_all (λ b. b ≢ 10) ds ((48 + n % 10) ∷ []) h (λ e. omega arith, tt))
    n fits

-- a thread
thread_unfed : (t : ℕ) → IsWord t → IsUnfed (thread_word t)
thread_unfed t fits = (λ e. omega arith, number_unfed t fits)

-- a local
pub local_unfed : (k : ℕ) → IsWord k → IsUnfed (local_word k)
local_unfed k fits = (λ e. omega arith, number_unfed k fits)

-- a length
pub length_unfed : (len : Option ℕ) → IfSome len IsWord → AllByRecursion IsUnfed (number_words len)
length_unfed None fits = tt
length_unfed (Some n) fits = (number_unfed n fits, tt)

-- a kind
pub kind_unfed : (kind : Kind) → IsUnfed (kind_word kind)
kind_unfed Strong = text_unfed (codes "strong") refl
kind_unfed Pinned = text_unfed (codes "pinned") refl
kind_unfed Weak = text_unfed (codes "weak") refl
kind_unfed WeakLong = text_unfed (codes "weaklong") refl
kind_unfed Dependent = text_unfed (codes "dependent") refl

-- a second local
pub second_unfed : (second : Option ℕ) → IfSome second IsWord → AllByRecursion IsUnfed (local_words second)
second_unfed None fits = tt
second_unfed (Some k) fits = (local_unfed k fits, tt)

-- words with a space before each
behind_unfed : (ws : List (List ℕ)) → AllByRecursion IsUnfed ws → IsUnfed (behind ws)
behind_unfed [] h = tt
behind_unfed (w ∷ ws) h = (λ e. omega arith, both_all (λ b. b ≢ 10) w (behind ws) h.0 (behind_unfed ws h.1))

-- ---- lines

-- a text goes on with these words, and then with the last part
abbrev pub GoesOn : List (List ℕ) → List ℕ → List ℕ → Type 0
GoesOn [] last text = text ≡ last
GoesOn (w ∷ ws) last text = (more : List ℕ) × (text ≡ (32 ∷ w) ++ more) × GoesOn ws last more

pub behind_goes_on : (ws : List (List ℕ)) (last text : List ℕ) → text ≡ behind ws ++ last → GoesOn ws last text
behind_goes_on [] last text is = is
behind_goes_on (w ∷ ws) last text is =
    (behind ws ++ last, is ∙ append_assoc (32 ∷ w) (behind ws) last, behind_goes_on ws last (behind ws ++ last) refl)

goes_on_behind : (ws : List (List ℕ)) (last text : List ℕ) → GoesOn ws last text → text ≡ behind ws ++ last
goes_on_behind [] last text is = is
goes_on_behind (w ∷ ws) last text (more, first, rest) =
    first ∙ (ap (λ (l : List ℕ). (32 ∷ w) ++ l) (goes_on_behind ws last more rest)
    ∙ sym (append_assoc (32 ∷ w) (behind ws) last))

-- the words behind a verb make the line of each thread
pub front_made : (verb : List ℕ) (ws : List (List ℕ)) (instruction : ℕ → Instruction) (text rest : List ℕ)
    → ((t : ℕ) → words_of (instruction t) ≡ thread_word t ∷ verb ∷ ws)
    → ((t : ℕ) → IsWord t → IsWellFormed (instruction t))
    → AllByRecursion IsUnfed (verb ∷ ws) → GoesOn ws (10 ∷ rest) text → Continues verb instruction text rest
front_made verb ws instruction text rest are formed unfed is t fits =
    let line = behind (verb ∷ ws) in
    let spelled : thread_word t ++ line ≡ spelling (instruction t) =
    spaced_behind (thread_word t) (verb ∷ ws) ∙ sym (ap spaced (are t)) in
    record {
      formed = formed t fits;
      cut = ap (λ (l : List ℕ). thread_word t ++ ((32 ∷ verb) ++ l)) (goes_on_behind ws (10 ∷ rest) text is)
          ∙ (ap (λ (l : List ℕ). thread_word t ++ l) (sym (append_assoc (32 ∷ verb) (behind ws) (10 ∷ rest)))
          ∙ (sym (append_assoc (thread_word t) line (10 ∷ rest)) ∙ ap (λ (l : List ℕ). l ++ (10 ∷ rest)) spelled));
      unfed = subst IsUnfed spelled (both_all (λ b. b ≢ 10) (thread_word t) line (thread_unfed t fits)
          (behind_unfed (verb ∷ ws) unfed));
    }

-- and so do the letters of a verb and what stands behind them
pub letters_told : (front back : List ℕ) (instruction : ℕ → Instruction) (text more rest : List ℕ) → text ≡ back ++ more
    → Continues (front ++ back) instruction more rest
    → Continues front instruction text rest
letters_told front back instruction text more rest is told t fits =
    subst (λ (l : List ℕ). IsInFront (instruction t) (thread_word t ++ (32 ∷ l)) rest)
    (append_assoc front back more ∙ ap (λ (l : List ℕ). front ++ l) (sym is)) (told t fits)

-- the line of a birth
pub new_made : (local : ℕ) (name : List ℕ) (len : Option ℕ) (text named last rest : List ℕ)
    → text ≡ (32 ∷ local_word local) ++ named → named ≡ (32 ∷ name) ++ last
    → last ≡ behind (number_words len) ++ (10 ∷ rest) → IsWord local → IsTrue (is_name name) → IfSome len IsWord
    → Continues (codes "new") (λ t. new_object t local name len) text rest
new_made local name len text named last rest first second third local-fits spelled len-fits =
    front_made (codes "new") (local_word local ∷ name ∷ number_words len) (λ t. new_object t local name len) text rest
    (λ t. refl) (λ t fits. (fits, local-fits, spelled, len-fits)) (
      text_unfed (codes "new") refl,
      (local_unfed local local-fits, (name_unfed name spelled, length_unfed len len-fits)),
    )
    (_, first, (_, second, behind_goes_on (number_words len) _ _ third))

-- and the text ends with what is behind their line
pub ends_with : (ws : List (List ℕ)) (rest text : List ℕ) → GoesOn ws (10 ∷ rest) text
    → (front : List ℕ) × (text ≡ front ++ rest)
ends_with ws rest text is = (
  behind ws ++ (10 ∷ []),
  goes_on_behind ws (10 ∷ rest) text is ∙ sym (append_assoc (behind ws) (10 ∷ []) rest),
)
