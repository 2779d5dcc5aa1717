-- Words with spaces between them are read again in one way.
use Rattle.std.proofs.Common.{◌≡◌, ◌==◌, ◌∙◌, ℕ, zero, suc, false, List, [], ◌∷◌, ◌++◌, refl, sym, ap, drop, get_or}
use Rattle.std.proofs.Common.{◌≢◌, arith}
use Rattle.std.specs.Prelude.{All}
use Rattle.std.specs.List.{join_with_byte}
use Rattle.std.proofs.lemmas.Bool.{ne_eqb}
use Rattle.std.proofs.lemmas.List.Splits.{slice_split_none, slice_split_at, join_with_byte-slice_split}
use Rattle.clr_model.specs.LineGrammar.{words}
use Rattle.std.specs.List.{AllByRecursion}
use Rattle.clr_model.specs.ReplyText.{spaced}

-- a word without a space
abbrev pub IsUnspaced : List ℕ → Type 0
IsUnspaced = AllByRecursion (λ (b : ℕ). b ≢ 32)

heads : {x y : ℕ} {xs ys : List ℕ} → x ∷ xs ≡ y ∷ ys → x ≡ y
heads {x = x} e = ap (λ l. get_or l 0 x) e

tails : {x y : ℕ} {xs ys : List ℕ} → x ∷ xs ≡ y ∷ ys → xs ≡ ys
tails e = ap (drop 1) e

no_cons : {x : ℕ} {xs : List ℕ} → [] ≡ x ∷ xs → ⊥
no_cons e = cc

-- the first space ends the first word
pub cut : (w v r s : List ℕ) → IsUnspaced w → IsUnspaced v → w ++ (32 ∷ r) ≡ v ++ (32 ∷ s) → (w ≡ v) × (r ≡ s)
cut [] [] r s hw hv e = (refl, tails e)
cut [] (b ∷ v) r s hw hv e = absurd (hv.0 (sym (heads e)))
cut (a ∷ w) [] r s hw hv e = absurd (hw.0 (heads e))
cut (a ∷ w) (b ∷ v) r s hw hv e =
    let (words, rests) = cut w v r s hw.1 hv.1 (tails e) in
    (λ i. heads e i ∷ words i, rests)

-- a word without a space holds none
no_cut : (w v s : List ℕ) → IsUnspaced w → w ≡ v ++ (32 ∷ s) → ⊥
no_cut [] [] s h e = no_cons e
no_cut [] (b ∷ v) s h e = no_cons e
no_cut (a ∷ w) [] s h e = h.0 (heads e)
no_cut (a ∷ w) (b ∷ v) s h e = no_cut w v s h.1 (tails e)

-- lists of words, none of them empty, that are spaced alike are one
pub spaced_once : (w v : List ℕ) (ws vs : List (List ℕ)) → AllByRecursion IsUnspaced (w ∷ ws)
    → AllByRecursion IsUnspaced (v ∷ vs) → spaced (w ∷ ws) ≡ spaced (v ∷ vs) → ◌≡◌ {A = List (List ℕ)} (w ∷ ws) (v ∷ vs)
spaced_once w v [] [] hw hv e = λ i. e i ∷ []
spaced_once w v [] (x ∷ vs) hw hv e = absurd (no_cut w v (spaced (x ∷ vs)) hw.0 e)
spaced_once w v (y ∷ ws) [] hw hv e = absurd (no_cut v w (spaced (y ∷ ws)) hv.0 (sym e))
spaced_once w v (y ∷ ws) (x ∷ vs) hw hv e =
    let (words, rests) = cut w v (spaced (y ∷ ws)) (spaced (x ∷ vs)) hw.0 hv.0 e in
    let more = spaced_once y x ws vs hw.1 hv.1 rests in
    λ i. words i ∷ more i

-- ---- the words of a line

unspaced_passes : (w : List ℕ) → IsUnspaced w → All (λ b. (b == 32) ≡ false) w
unspaced_passes [] h k d lt = absurd (omega arith)
unspaced_passes (b ∷ w) h zero d lt = ne_eqb b 32 h.0
unspaced_passes (b ∷ w) h (suc k) d lt = unspaced_passes w h.1 k d (omega arith)

-- words without spaces, with one between two of them, are found again
pub words-spaced : (w : List ℕ) (ws : List (List ℕ)) → AllByRecursion IsUnspaced (w ∷ ws)
    → words (spaced (w ∷ ws)) ≡ w ∷ ws
words-spaced w [] h = slice_split_none (λ b. b == 32) w (unspaced_passes w h.0)
words-spaced w (v ∷ vs) h =
    slice_split_at (λ b. b == 32) w 32 (spaced (v ∷ vs)) (unspaced_passes w h.0) refl
    ∙ ap (λ more. w ∷ more) (words-spaced v vs h.1)

joined : (ws : List (List ℕ)) → join_with_byte 32 ws ≡ spaced ws
joined [] = refl
joined (w ∷ []) = refl
joined (w ∷ v ∷ vs) = ap (λ more. w ++ (32 ∷ more)) (joined (v ∷ vs))

-- a line is its words with one space between two of them
pub spaced-words : (line : List ℕ) → spaced (words line) ≡ line
spaced-words line = sym (joined (words line)) ∙ join_with_byte-slice_split 32 line
