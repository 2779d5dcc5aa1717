-- The words that were read are those of the line.
use Rattle.std.proofs.Common.{[], ◌∷◌, refl, codes, drop, decimal}
use Rattle.clr_model.specs.Instructions.{get_slot}
use Rattle.clr_model.specs.LineGrammar.{local_word}
use Rattle.clr_script.proofs.FrontLines.{front_made, local_unfed, number_unfed, text_unfed}
use Rattle.clr_script.proofs.quick.lines.get_at.Goals as goal

pub returns-clause-line : goal.returns-clause-line
returns-clause-line c =
    let to = c.in_ok-to in
    let from = c.in_ok-from in
    let index = c.in_ok-index in
    front_made (codes "get") (local_word to.to ∷ local_word from.from ∷ decimal index.index ∷ [])
    (λ t. get_slot t to.to from.from index.index) (32 ∷ drop c.args.at c.args.text.now) _ (λ t. refl)
    (λ t fits. (fits, to.ensures.read.1, from.ensures.read.1, index.ensures.read.1)) (
      text_unfed (codes "get") refl,
      (
        local_unfed to.to to.ensures.read.1,
        (
          local_unfed from.from from.ensures.read.1,
          (number_unfed index.index index.ensures.read.1, tt),
        ),
      ),
    )
    (_, to.ensures.read.0, (_, from.ensures.read.0, (_, index.ensures.read.0, c.in_ok-end.ensures.read)))
