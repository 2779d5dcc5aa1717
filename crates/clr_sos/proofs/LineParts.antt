-- Lines whose words are put behind a text one by one.
use Rattle.std.proofs.Common.{◌≡◌, ℕ, ◌+◌, ◌<◌, List, [], ◌∷◌, ◌++◌, length, get_or, take, append_assoc, append-nil}
use Rattle.std.proofs.Common.{ap, refl, sym, ◌∙◌}
use Rattle.std.specs.Prelude.{codes}
use Rattle.std.specs.List.{flat_map}
use Rattle.std.proofs.lemmas.List.{flat_map_more, take_more}
use Rattle.clr_model.specs.ReplyText.{spaced}
use Rattle.clr_model.specs.Sos.{line}
use Rattle.clr_sos.specs.TextPieces.{each_spaced}

-- the first word has no space before it
pub spaced-cons : (word : List ℕ) (words : List (List ℕ)) → spaced (word ∷ words) ≡ word ++ each_spaced words
spaced-cons word [] = sym (append-nil word)
spaced-cons word (next ∷ words) = ap (λ rest. word ++ (32 ∷ rest)) (spaced-cons next words)

-- words behind a first one, each behind a space, and a line feed
abbrev pub ended : List (List ℕ) → List ℕ
ended [] = 10 ∷ []
ended (word ∷ words) = 32 ∷ (word ++ ended words)

pub ended-is : (words : List (List ℕ)) → ended words ≡ each_spaced words ++ (10 ∷ [])
ended-is [] = refl
ended-is (word ∷ words) =
    ap (λ rest. 32 ∷ (word ++ rest)) (ended-is words)
    ∙ ap (λ rest. 32 ∷ rest) (sym (append_assoc word (each_spaced words) (10 ∷ [])))

pub line-cons : (word : List ℕ) (words : List (List ℕ)) → line (word ∷ words) ≡ word ++ ended words
line-cons word words =
    ap (λ text. text ++ (10 ∷ [])) (spaced-cons word words) ∙ append_assoc word (each_spaced words) (10 ∷ [])
    ∙ ap (λ rest. word ++ rest) (sym (ended-is words))

-- what elements say, with one element more
pub lines-more : {X : Type 0} (says : X → List ℕ) (text : List ℕ) (xs : List X) (k : ℕ) (d : X) → k < length xs
    → (text ++ flat_map says (take k xs)) ++ says (get_or xs k d) ≡ text ++ flat_map says (take (k + 1) xs)
lines-more says text xs k d within =
    flat_map_more says text (take k xs) (get_or xs k d)
    ∙ ap (λ front. text ++ flat_map says front) (sym (take_more xs k d within))

-- the line of a segment
pub segment_parts : (text base kind last reserved : List ℕ) (words : List (List ℕ))
    → (((((((((text ++ codes "segment ") ++ base) ++ codes " ") ++ kind) ++ codes " end ") ++ last)
    ++ codes " reserved ") ++ reserved) ++ each_spaced words) ++ (10 ∷ [])
    ≡ text ++ line (codes "segment" ∷ base ∷ kind ∷ codes "end" ∷ last ∷ codes "reserved" ∷ reserved ∷ words)
segment_parts text base kind last reserved words =
    let parts : (((((((((text ++ codes "segment ") ++ base) ++ codes " ") ++ kind) ++ codes " end ") ++ last)
    ++ codes " reserved ") ++ reserved) ++ each_spaced words) ++ (10 ∷ [])
    ≡ text ++ (codes "segment" ++ ended (base ∷ kind ∷ codes "end" ∷ last ∷ codes "reserved" ∷ reserved ∷ words)) =
    rw (ended-is words) (simp append_assoc) in
    parts ∙ ap (λ rest. text ++ rest) (sym (line-cons (codes "segment")
    (base ∷ kind ∷ codes "end" ∷ last ∷ codes "reserved" ∷ reserved ∷ words)))

-- the line of a handle
pub handle_parts : (text number kind target : List ℕ) (words : List (List ℕ))
    → (((((((text ++ codes "h") ++ number) ++ codes " ") ++ kind) ++ codes " ") ++ target) ++ each_spaced words)
    ++ (10 ∷ []) ≡ text ++ line ((104 ∷ number) ∷ kind ∷ target ∷ words)
handle_parts text number kind target words =
    let parts : (((((((text ++ codes "h") ++ number) ++ codes " ") ++ kind) ++ codes " ") ++ target)
    ++ each_spaced words) ++ (10 ∷ []) ≡ text ++ ((104 ∷ number) ++ ended (kind ∷ target ∷ words)) =
    rw (ended-is words) (simp append_assoc) in
    parts ∙ ap (λ rest. text ++ rest) (sym (line-cons (104 ∷ number) (kind ∷ target ∷ words)))

-- the line of a place of the finalisation queue
pub queued_parts : (text word place name : List ℕ)
    → (((((text ++ word) ++ codes " ") ++ place) ++ codes " ") ++ name) ++ (10 ∷ [])
    ≡ text ++ line (word ∷ place ∷ name ∷ [])
queued_parts text word place name = simp append_assoc
