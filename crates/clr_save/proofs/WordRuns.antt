-- Words that stand one behind the other from an address on.
use Rattle.std.proofs.Common.{◌≡◌, ℕ, zero, suc, ◌+◌, ◌-◌, ◌*◌, ◌/◌, ◌%◌, ◌≤◌, ◌<◌, List, [], ◌∷◌, ◌++◌, get_or, length}
use Rattle.std.proofs.Common.{refl, ap, sym, ◌∙◌, subst, arith, inl, inr, append_assoc}
use Rattle.std.proofs.lemmas.Bool.{cases_eq}
use Rattle.std.proofs.lemmas.List.{length-append, length-replicate}
use Rattle.clr_mem.specs.Words.{zeros}
use Rattle.clr_save.specs.SavedWords.{free_words, words_at}

abbrev pub HasRun : (ℕ → ℕ) → ℕ → List ℕ → Type 0
HasRun w a [] = Unit {0}
HasRun w a (x ∷ xs) = (w a ≡ x) × HasRun w (a + 8) xs

pub has-left : (w : ℕ → ℕ) (a : ℕ) (xs ys : List ℕ) → HasRun w a (xs ++ ys) → HasRun w a xs
has-left w a [] ys h = tt
has-left w a (x ∷ xs) ys h = (h.0, has-left w (a + 8) xs ys h.1)

pub has-right : (w : ℕ → ℕ) (a : ℕ) (xs ys : List ℕ) → HasRun w a (xs ++ ys) → HasRun w (a + 8 * length xs) ys
has-right w a [] ys h = subst (λ (b : ℕ). HasRun w b ys) (let e : a ≡ a + 8 * 0 = omega arith in e) h
has-right w a (x ∷ xs) ys h =
    subst (λ (b : ℕ). HasRun w b ys) (let e : a + 8 + 8 * length xs ≡ a + 8 * suc (length xs) = omega arith in e)
    (has-right w (a + 8) xs ys h.1)

-- the word of a list by its address, the first standing at `start`
abbrev pub word_in : List ℕ → ℕ → ℕ → ℕ
word_in ws start a = get_or ws ((a - start) / 8) 0

got : (front : List ℕ) (x : ℕ) (xs : List ℕ) → get_or (front ++ x ∷ xs) (length front) 0 ≡ x
got [] x xs = refl
got (y ∷ front) x xs = got front x xs

has-from : (start : ℕ) (front ws all : List ℕ) → front ++ ws ≡ all
    → HasRun (word_in all start) (start + 8 * length front) ws
has-from start front [] all is = tt
has-from start front (x ∷ xs) all is =
    let at : (start + 8 * length front - start) / 8 ≡ length front = omega arith in
    let next = length-append front (x ∷ []) in
    let more : start + 8 * length (front ++ x ∷ []) ≡ start + 8 * length front + 8 = omega (arith, next) in (
      ap (λ (n : ℕ). get_or all n 0) at ∙ ap (λ (ws : List ℕ). get_or ws (length front) 0) (sym is)
          ∙ got front x xs,
      subst (λ (b : ℕ). HasRun (word_in all start) b xs) more
          (has-from start (front ++ x ∷ []) xs all (append_assoc front (x ∷ []) xs ∙ is)),
    )

-- a list's words stand from its start on
pub has-all : (start : ℕ) (ws : List ℕ) → HasRun (word_in ws start) start ws
has-all start ws =
    subst (λ (b : ℕ). HasRun (word_in ws start) b ws) (let e : start + 8 * 0 ≡ start = omega arith in e)
    (has-from start [] ws ws refl)

-- ---- which words they are

pub has-at : (w word : ℕ → ℕ) (a n b : ℕ) → HasRun w a (words_at word a n) → b % 8 ≡ a % 8 → a ≤ b → b < a + 8 * n
    → w b ≡ word b
unfolding words_at
has-at w word a zero b h z low high = absurd (omega arith)
has-at w word a (suc n) b h z low high = elim (cases_eq b a) [
  | inl same ↦ ap w same ∙ h.0 ∙ ap word (sym same)
  | inr other ↦ has-at w word (a + 8) n b h.1 (omega arith) (above b a z low other) (omega arith)
]
  where
    above : (b a : ℕ) → b % 8 ≡ a % 8 → a ≤ b → (b ≡ a → ⊥) → a + 8 ≤ b
    above b a z low other = omega arith

pub has-zeros : (w : ℕ → ℕ) (a n b : ℕ) → HasRun w a (zeros n) → b % 8 ≡ a % 8 → a ≤ b → b < a + 8 * n → w b ≡ 0
unfolding zeros
has-zeros w a zero b h z low high = absurd (omega arith)
has-zeros w a (suc n) b h z low high = elim (cases_eq b a) [
  | inl same ↦ ap w same ∙ h.0
  | inr other ↦ has-zeros w (a + 8) n b h.1 (omega arith) (above b a z low other) (omega arith)
]
  where
    above : (b a : ℕ) → b % 8 ≡ a % 8 → a ≤ b → (b ≡ a → ⊥) → a + 8 ≤ b
    above b a z low other = omega arith

-- ---- how many they are

pub length-words_at : (word : ℕ → ℕ) (a n : ℕ) → length (words_at word a n) ≡ n
unfolding words_at
length-words_at word a zero = refl
length-words_at word a (suc n) = ap suc (length-words_at word (a + 8) n)

pub length-zeros : (n : ℕ) → length (zeros n) ≡ n
unfolding zeros
length-zeros n = length-replicate n 0

pub length-free : (size : ℕ) → 24 ≤ size → size % 8 ≡ 0 → 8 * length (free_words size) ≡ size
unfolding free_words
length-free size least whole = let rest = length-zeros ((size - 24) / 8) in omega (arith, rest)
