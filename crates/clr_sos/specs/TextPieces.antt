-- Pieces of lines.
use Rattle.std.specs.Prelude.{ℕ, List, [], ◌∷◌, ◌++◌, decimal}
use Rattle.std.specs.List.{flat_map}
use Rattle.clr_nums.specs.Numbers.{hex16}
use Rattle.clr_types.specs.Types.{TypeRow, name_of}
use Rattle.clr_model.specs.Lookups.{object_at}
use Rattle.clr_model.specs.Machine.{Object}
use Rattle.clr_model.specs.Sos.{line, type_of_place}

-- each word behind a space
abbrev pub each_spaced : List (List ℕ) → List ℕ
each_spaced words = flat_map (λ word. 32 ∷ word) words

-- the front of an item's line: its place, its method table word and its size, a space behind each
abbrev pub head_words : ℕ → ℕ → ℕ → List ℕ
head_words place mt size =
    (hex16 place ++ (32 ∷ [])) ++ ((hex16 mt ++ (32 ∷ [])) ++ (decimal size ++ (32 ∷ [])))

-- the line of a place of the finalisation queue, behind the word that says which list it stands in
abbrev pub queued_line : List TypeRow → List Object → List ℕ → ℕ → List ℕ
queued_line rows objects word place =
    line (word ∷ hex16 place ∷ name_of rows (type_of_place (object_at objects place)) ∷ [])
