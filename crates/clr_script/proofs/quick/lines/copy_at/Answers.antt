-- The words that were read are those of the line.
use Rattle.std.proofs.Common.{[], ◌∷◌, refl, codes, drop}
use Rattle.clr_model.specs.Instructions.{copy_local}
use Rattle.clr_model.specs.LineGrammar.{local_word}
use Rattle.clr_script.proofs.FrontLines.{front_made, local_unfed, text_unfed}
use Rattle.clr_script.proofs.quick.lines.copy_at.Goals as goal

pub returns-clause-line : goal.returns-clause-line
returns-clause-line c =
    let to = c.in_ok-to in
    let from = c.in_ok-from in
    front_made (codes "copy") (local_word to.to ∷ local_word from.from ∷ [])
    (λ t. copy_local t to.to from.from) (drop c.args.at c.args.text.now) _ (λ t. refl)
    (λ t fits. (fits, to.ensures.read.1, from.ensures.read.1)) (
      text_unfed (codes "copy") refl,
      (
        local_unfed to.to to.ensures.read.1,
        (local_unfed from.from from.ensures.read.1, tt),
      ),
    )
    (_, to.ensures.read.0, (_, from.ensures.read.0, c.in_ok-end.ensures.read))
