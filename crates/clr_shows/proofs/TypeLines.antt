-- The line of a type, word by word.
use Rattle.std.proofs.Common.{◌≡◌, ◌∙◌, ℕ, zero, suc, ◌+◌, ◌-◌, ◌<◌, List, [], ◌∷◌, ◌++◌, append_assoc, append-nil}
use Rattle.std.proofs.Common.{codes, sym, ap}
use Rattle.std.proofs.Common.{arith}
use Rattle.std.proofs.lemmas.Grind.{flat_map-append}
use Rattle.clr_types.specs.Types.{form_at, has_finalizer, mt_of, type_row, TypeRow}
use Rattle.clr_model.specs.LineGrammar.{final_words, form_words}
use Rattle.clr_model.specs.Looks.{defining_words, type_with_mt}
use Rattle.clr_model.specs.Sos.{line}
use Rattle.clr_sos.specs.TextPieces.{each_spaced}
use Rattle.clr_sos.proofs.LineParts.{ended, ended-is, line-cons}

-- the words of a type's line, put behind a text one by one
pub type_parts : (mt name : List ℕ) (words : List (List ℕ))
    → (((((([] ++ codes "mt ") ++ mt) ++ codes " ") ++ name) ++ each_spaced words) ++ (10 ∷ []))
    ≡ line (codes "mt" ∷ mt ∷ name ∷ words)
type_parts mt name words =
    let parts : (((((([] ++ codes "mt ") ++ mt) ++ codes " ") ++ name) ++ each_spaced words) ++ (10 ∷ []))
    ≡ codes "mt" ++ ended (mt ∷ name ∷ words) = rw (ended-is words) (simp append_assoc) in
    parts ∙ sym (line-cons (codes "mt") (mt ∷ name ∷ words))

-- no words define the type of free items
pub nothing-defines : (rows : List TypeRow) (t : ℕ) (text : List ℕ) → t ≡ 0
    → text ≡ text ++ each_spaced (defining_words rows t)
nothing-defines rows t text is =
    sym (append-nil text) ∙ ap (λ (n : ℕ). text ++ each_spaced (defining_words rows n)) (sym is)

-- a shape and whether there is a finaliser define a type
pub shape-defines : (rows : List TypeRow) (t : ℕ) (text : List ℕ) → 0 < t
    → (text ++ each_spaced (form_words (form_at rows t))) ++ each_spaced (final_words (has_finalizer (type_row rows t)))
    ≡ text ++ each_spaced (defining_words rows t)
shape-defines rows zero text some = absurd (omega (arith, some))
shape-defines rows (suc t) text some =
    let form = form_words (form_at rows (suc t)) in
    let final = final_words (has_finalizer (type_row rows (suc t))) in
    append_assoc text (each_spaced form) (each_spaced final)
    ∙ ap (λ (l : List ℕ). text ++ l) (sym (flat_map-append (λ (word : List ℕ). 32 ∷ word) form final))

-- the number of the type with a method table word
pub type-number : (mt t : ℕ) → mt ≡ mt_of t → type_with_mt mt ≡ t
type-number mt t is = omega (arith, is)
