-- The words that were read are those of the line.
use Rattle.std.proofs.Common.{[], ◌∷◌, refl, codes, drop}
use Rattle.clr_model.specs.Instructions.{suppress_object}
use Rattle.clr_model.specs.LineGrammar.{local_word}
use Rattle.clr_script.proofs.FrontLines.{front_made, letters_told, local_unfed, text_unfed}
use Rattle.clr_script.proofs.quick.lines.suppress_at.Goals as goal

pub returns-clause-line : goal.returns-clause-line
returns-clause-line c =
    let local = c.in_ok-local in
    letters_told (codes "supp") (codes "ress") (λ t. suppress_object t local.local) (drop c.args.at c.args.text.now) _ _
    c.in_ok-next.ensures.read
    (front_made (codes "suppress") (local_word local.local ∷ []) (λ t. suppress_object t local.local) _ _ (λ t. refl)
    (λ t fits. (fits, local.ensures.read.1))
    (text_unfed (codes "suppress") refl, (local_unfed local.local local.ensures.read.1, tt))
    (_, local.ensures.read.0, c.in_ok-end.ensures.read))
