-- The words that were read are those of the line.
use Rattle.std.proofs.Common.{[], ◌∷◌, refl, codes, drop}
use Rattle.clr_model.specs.Instructions.{take_ready}
use Rattle.clr_model.specs.LineGrammar.{local_word}
use Rattle.clr_script.proofs.FrontLines.{front_made, letters_told, local_unfed, text_unfed}
use Rattle.clr_script.proofs.quick.lines.finalizer_at.Goals as goal

pub returns-clause-line : goal.returns-clause-line
returns-clause-line c =
    let to = c.in_ok-to in
    letters_told (codes "fina") (codes "lizer") (λ t. take_ready t to.to) (drop c.args.at c.args.text.now) _ _
    c.in_ok-next.ensures.read
    (front_made (codes "finalizer") (local_word to.to ∷ []) (λ t. take_ready t to.to) _ _ (λ t. refl)
    (λ t fits. (fits, to.ensures.read.1))
    (text_unfed (codes "finalizer") refl, (local_unfed to.to to.ensures.read.1, tt))
    (_, to.ensures.read.0, c.in_ok-end.ensures.read))
