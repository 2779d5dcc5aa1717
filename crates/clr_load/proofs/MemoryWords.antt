-- Words of which the first are there.
use Rattle.std.proofs.Common.{◌≡◌, ℕ, zero, suc, ◌+◌, ◌-◌, ◌*◌, ◌/◌, ◌%◌, ◌<◌, ◌≤◌, nat_le, ◌||◌, ◌==◌, nat_lt, true}
use Rattle.std.proofs.Common.{false}
use Rattle.std.proofs.Common.{Bool, if◌then◌else◌, List, length, Option, Some, None, is_some, refl, sym, ◌∙◌, ap, arith}
use Rattle.std.proofs.Common.{subst}
use Rattle.std.proofs.Common.{inl, inr}
use Rattle.std.proofs.lemmas.Bool.{cases_lt, lt-ltb, le-leb}
use Rattle.clr_fields.specs.Fields.{word_at}
use Rattle.clr_sos.specs.CheckedCells.{first_byte, first_in_words, or_else, Words}

pub word_there : (bytes : List ℕ) (o : ℕ) → o + 8 ≤ length bytes → is_some (word_at bytes o) ≡ true
unfolding word_at
word_there bytes o l = rw (le-leb (o + 8) (length bytes) l) refl

pub word_gone : (bytes : List ℕ) (o : ℕ) → length bytes < o + 8 → word_at bytes o ≡ None
unfolding word_at
word_gone bytes o l = let off : nat_le (o + 8) (length bytes) ≡ false = grind (arith, l) in rw off refl

-- ---- first faults

pub next_word : (n from a w : ℕ) (words : Words) → words a ≡ Some w
    → first_in_words (suc n) from words a ≡ or_else (first_byte 8 from a w) (first_in_words n from words (a + 8))
unfolding first_in_words
next_word n from a w words e = rw (e, first_in_words) refl

pub no_word : (n from a : ℕ) (words : Words) → words a ≡ None → first_in_words (suc n) from words a ≡ Some a
unfolding first_in_words
no_word n from a words e = rw (e, first_in_words) refl

pub no_words : (from a : ℕ) (words : Words) → first_in_words 0 from words a ≡ None
unfolding first_in_words
no_words from a words = refl

-- no byte stands at `from` or above
below : (n from a w : ℕ) → a + n ≤ from → first_byte n from a w ≡ None
unfolding first_byte
below zero from a w h = refl
below (suc n) from a w h =
    let low : nat_lt a from ≡ true = lt-ltb a from (omega arith) in
    rw low (below n from (a + 1) (w / 256) (omega arith))

-- a word of zero has no other byte
pub zero_word : (n from a : ℕ) → first_byte n from a 0 ≡ None
unfolding first_byte
zero_word zero from a = refl
zero_word (suc n) from a = go (nat_lt a from) (zero_word n from (a + 1))
  where
    go : (t : Bool) → first_byte n from (a + 1) 0 ≡ None
        → (if◌then◌else◌ (t || (0 % 256 == 0)) (first_byte n from (a + 1) (0 / 256)) (Some a)) ≡ None
    go true h = h
    go false h = h

or_none : (o : Option ℕ) → or_else o None ≡ o
or_none None = refl
or_none (Some a) = refl

or_assoc : (a b c : Option ℕ) → or_else a (or_else b c) ≡ or_else (or_else a b) c
or_assoc None b c = refl
or_assoc (Some x) b c = refl

some_word : (o : Option ℕ) → is_some o ≡ true → (w : ℕ) × (o ≡ Some w)
some_word None h = absurd cc
some_word (Some w) h = (w, refl)

-- the n words from a on are there
abbrev There : Words → ℕ → ℕ → Type 0
There words a n = (i : ℕ) → i < n → is_some (words (a + 8 * i)) ≡ true

first_there : (words : Words) (a n : ℕ) → There words a (suc n) → (w : ℕ) × (words a ≡ Some w)
first_there words a n h =
    let at : a + 8 * 0 ≡ a = omega arith in
    some_word (words a) (subst (λ (b : ℕ). is_some (words b) ≡ true) at (h 0 (omega arith)))

rest_there : (words : Words) (a n : ℕ) → There words a (suc n) → There words (a + 8) n
rest_there words a n h i l =
    let at : a + 8 * (i + 1) ≡ a + 8 + 8 * i = omega arith in
    subst (λ (b : ℕ). is_some (words b) ≡ true) at (h (i + 1) (omega arith))

-- words below `from` say nothing
pub words_skipped : (k n from a : ℕ) (words : Words) → There words a k → (0 < k → a + 8 * k ≤ from)
    → first_in_words (k + n) from words a ≡ first_in_words n from words (a + 8 * k)
words_skipped zero n from a words h low =
    let count : 0 + n ≡ n = omega arith in
    let at : a + 8 * 0 ≡ a = omega arith in
    rw (count, at) refl
words_skipped (suc k) n from a words h low =
    let w = first_there words a k h in
    let far : a + 8 * suc k ≤ from = low (omega arith) in
    let count : suc k + n ≡ suc (k + n) = omega arith in
    let at : a + 8 + 8 * k ≡ a + 8 * suc k = omega arith in
    let none : first_byte 8 from a w.0 ≡ None = below 8 from a w.0 (omega arith) in
    ap (λ (m : ℕ). first_in_words m from words a) count ∙ next_word (k + n) from a w.0 words w.1
    ∙ ap (λ (o : Option ℕ). or_else o (first_in_words (k + n) from words (a + 8))) none
    ∙ words_skipped k n from (a + 8) words (rest_there words a k h) (λ _. omega arith)
    ∙ ap (first_in_words n from words) at

-- the first words, and then the others
pub words_split : (m n from a : ℕ) (words : Words) → There words a m
    → first_in_words (m + n) from words a
    ≡ or_else (first_in_words m from words a) (first_in_words n from words (a + 8 * m))
words_split zero n from a words h =
    let count : 0 + n ≡ n = omega arith in
    let at : a + 8 * 0 ≡ a = omega arith in
    rw (count, at, no_words from a words) refl
words_split (suc m) n from a words h =
    let w = first_there words a m h in
    let count : suc m + n ≡ suc (m + n) = omega arith in
    let at : a + 8 + 8 * m ≡ a + 8 * suc m = omega arith in
    ap (λ (k : ℕ). first_in_words k from words a) count ∙ next_word (m + n) from a w.0 words w.1
    ∙ ap (or_else (first_byte 8 from a w.0)) (words_split m n from (a + 8) words (rest_there words a m h))
    ∙ or_assoc (first_byte 8 from a w.0) (first_in_words m from words (a + 8))
    (first_in_words n from words (a + 8 + 8 * m))
    ∙ ap (λ (b : ℕ). or_else (or_else (first_byte 8 from a w.0) (first_in_words m from words (a + 8)))
    (first_in_words n from words b)) at
    ∙ ap (λ (o : Option ℕ). or_else o (first_in_words n from words (a + 8 * suc m)))
    (sym (next_word m from a w.0 words w.1))

-- ---- the first fault of words of which only the first are there

pub all_there : (count there from a : ℕ) (words : Words) → there ≤ count → count ≤ there
    → first_in_words there from words a ≡ first_in_words count from words a
all_there count there from a words l m = ap (λ (n : ℕ). first_in_words n from words a) (omega arith)

pub some_missing : (count there from a : ℕ) (words : Words) → There words a there → there < count
    → words (a + 8 * there) ≡ None
    → first_in_words count from words a ≡ or_else (first_in_words there from words a) (Some (a + 8 * there))
some_missing count there from a words h l none =
    let split : count ≡ there + suc (count - there - 1) = omega arith in
    ap (λ (n : ℕ). first_in_words n from words a) split
    ∙ words_split there (suc (count - there - 1)) from a words h
    ∙ ap (or_else (first_in_words there from words a)) (no_word (count - there - 1) from (a + 8 * there) words none)

-- a fault among the words that are there is the first
pub or_at_first : (count there from a found : ℕ) (words : Words) → There words a there → there ≤ count
    → (there < count → words (a + 8 * there) ≡ None) → first_in_words there from words a ≡ Some found
    → first_in_words count from words a ≡ Some found
or_at_first count there from a found words h few gone is = elim (cases_lt there count) [
  | inl less ↦
      some_missing count there from a words h less (gone less)
      ∙ ap (λ (o : Option ℕ). or_else o (Some (a + 8 * there))) is
  | inr most ↦ sym (all_there count there from a words few most) ∙ is
]
