-- The words that were read are those of the line.
use Rattle.std.proofs.Common.{[], ◌∷◌, refl, codes, drop, decimal}
use Rattle.clr_model.specs.Instructions.{put_number}
use Rattle.clr_model.specs.LineGrammar.{local_word}
use Rattle.clr_script.proofs.FrontLines.{front_made, local_unfed, number_unfed, text_unfed}
use Rattle.clr_script.proofs.quick.lines.put_at.Goals as goal

pub returns-clause-line : goal.returns-clause-line
returns-clause-line c =
    let into = c.in_ok-into in
    let index = c.in_ok-index in
    let value = c.in_ok-value in
    front_made (codes "put") (local_word into.into ∷ decimal index.index ∷ decimal value.value ∷ [])
    (λ t. put_number t into.into index.index value.value) (32 ∷ drop c.args.at c.args.text.now) _ (λ t. refl)
    (λ t fits. (fits, into.ensures.read.1, index.ensures.read.1, value.ensures.read.1)) (
      text_unfed (codes "put") refl,
      (
        local_unfed into.into into.ensures.read.1,
        (
          number_unfed index.index index.ensures.read.1,
          (number_unfed value.value value.ensures.read.1, tt),
        ),
      ),
    )
    (_, into.ensures.read.0, (_, index.ensures.read.0, (_, value.ensures.read.0, c.in_ok-end.ensures.read)))
