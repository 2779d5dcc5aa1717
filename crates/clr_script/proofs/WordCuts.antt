-- Words of a line and decimal numbers.
use Rattle.std.proofs.Common.{◌≡◌, ℕ, ◌+◌, ◌-◌, ◌≤◌, Bool, true, false, cond, not, List, [], ◌∷◌, length, take, drop}
use Rattle.std.proofs.Common.{Some, None, position, count_by, nat_eq, nat_lt, refl, arith}
use Rattle.std.specs.List.{position_or_len}
use Rattle.std.proofs.lemmas.Bool.{ltb-true, ltb-false, not-true}
use Rattle.std.proofs.lemmas.List.{take_rest}
use Rattle.std.proofs.lemmas.List.Sums.{prefix_len_passes}
use Rattle.std.proofs.lemmas.List.Splits.{slice_split_none, slice_split_first, length-slice_split}
use Rattle.clr_model.specs.LineGrammar.{words}
use Rattle.clr_model.specs.Parsing.{none_in}

-- what a choice between `Some` and `None` says of its test
pub cond_none : (b : Bool) (x : ℕ) → cond b (Some x) None ≡ None → b ≡ false
cond_none true x e = cc
cond_none false x e = refl

pub cond_some : (b : Bool) (x y : ℕ) → cond b (Some x) None ≡ Some y → (b ≡ true) × (x ≡ y)
cond_some true x y e = (refl, cc)
cond_some false x y e = cc

-- a line with no space is one word
pub words_none : (line : List ℕ) → position (λ b. nat_eq b 32) line ≡ None → words line ≡ line ∷ []
words_none line e =
    let le : length line ≤ position_or_len (λ b. nat_eq b 32) line = ltb-false _ _ (cond_none _ _ e) in
    slice_split_none (λ b. nat_eq b 32) line
    (λ k d lt. not-true _ (prefix_len_passes (λ b. not (nat_eq b 32)) line k d (omega arith)))

-- the first word ends at the first space
pub words_some : (line : List ℕ) (at : ℕ) → position (λ b. nat_eq b 32) line ≡ Some at →
    words line ≡ take at line ∷ words (take (length line - (at + 1)) (drop (at + 1) line))
words_some line at e =
    let h = cond_some (nat_lt (position_or_len (λ b. nat_eq b 32) line) (length line))
    (position_or_len (λ b. nat_eq b 32) line) at e in
    let first : words line ≡ take (position_or_len (λ b. nat_eq b 32) line) line ∷ words
    (drop (position_or_len (λ b. nat_eq b 32) line + 1) line)
    = slice_split_first (λ b. nat_eq b 32) line 0 (ltb-true _ _ h.0) in
    rw (take_rest, ← h.1) first

-- where a space was, a word is left, though it may be empty
pub none_in_words : (line : List ℕ) → none_in (words line) ≡ None
none_in_words line = go (words line) (length-slice_split (λ b. nat_eq b 32) line)
  where
    go : (ws : List (List ℕ)) → length ws ≡ count_by (λ b. nat_eq b 32) line + 1 → none_in ws ≡ None
    go [] e = absurd (omega (arith, e))
    go (w ∷ ws) e = refl
