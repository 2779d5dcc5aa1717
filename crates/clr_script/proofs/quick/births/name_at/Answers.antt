-- The name stands behind a space.
use Rattle.std.proofs.Common.{◌∙◌, ◌+◌, ◌∷◌, ℕ, List, ap, arith}
use Rattle.clr_script.proofs.Places.{slice_here}
use Rattle.clr_script.proofs.quick.births.name_at.Goals as goal

pub returns-then-ends_word-clause-cut : goal.returns-then-ends_word-clause-cut
returns-then-ends_word-clause-cut c =
    c.is_at.ensures c.if-not-is_at.false
    ∙ ap (λ (l : List ℕ). 32 ∷ l) (slice_here c.args.text.now (c.args.at + 1) _ (omega arith))
