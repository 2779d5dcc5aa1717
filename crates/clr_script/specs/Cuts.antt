-- The words that are left of a line.
use Rattle.std.specs.Prelude.{ℕ, List, [], Option, Some, None}
use denote.Ref.{Bor}
use Rattle.clr_model.specs.LineGrammar.{words}

-- behind the last word nothing is left, and behind another what stands after its space
abbrev pub words_left : Option (Bor (List ℕ)) → List (List ℕ)
words_left None = []
words_left (Some rest) = words rest.now
