-- Replies that can be shown.
use Rattle.std.specs.Prelude.{◌≡◌, ℕ, ◌≤◌, List, [], ◌∷◌}
use Rattle.clr_model.specs.declared.Reply.{Reply}
use Rattle.clr_model.specs.declared.Reply.TheVariants as reply
use Rattle.clr_model.specs.declared.Refusal.{Refusal}
use Rattle.clr_model.specs.ReplyText.{refusal_words}

-- the number of a segment's kind is one
abbrev pub IsShowable : Reply → Type 0
IsShowable (reply.Where w) = w.kind ≤ 3
IsShowable _ = Unit {0}

abbrev pub IsFirstOf : List (List ℕ) → List ℕ → Type 0
IsFirstOf [] word = ⊥
IsFirstOf (first ∷ more) word = word ≡ first

-- the first word that names the refusal
abbrev pub IsRefusalName : Refusal → List ℕ → Type 0
IsRefusalName refusal word = IsFirstOf (refusal_words refusal) word
