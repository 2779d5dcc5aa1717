-- The words that were read are those of the line.
use Rattle.std.proofs.Common.{[], ◌∷◌, refl, codes, drop, decimal}
use Rattle.clr_model.specs.Instructions.{read_number}
use Rattle.clr_model.specs.LineGrammar.{local_word}
use Rattle.clr_script.proofs.FrontLines.{front_made, local_unfed, number_unfed, text_unfed}
use Rattle.clr_script.proofs.quick.lines.slot_at.Goals as goal

pub returns-clause-line : goal.returns-clause-line
returns-clause-line c =
    let from = c.in_ok-from in
    let index = c.in_ok-index in
    front_made (codes "read") (local_word from.from ∷ decimal index.index ∷ [])
    (λ t. read_number t from.from index.index) (drop c.args.at c.args.text.now) _ (λ t. refl)
    (λ t fits. (fits, from.ensures.read.1, index.ensures.read.1)) (
      text_unfed (codes "read") refl,
      (
        local_unfed from.from from.ensures.read.1,
        (number_unfed index.index index.ensures.read.1, tt),
      ),
    )
    (_, from.ensures.read.0, (_, index.ensures.read.0, c.in_ok-end.ensures.read))
