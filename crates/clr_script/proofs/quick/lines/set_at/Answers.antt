-- The words that were read are those of the line.
use Rattle.std.proofs.Common.{[], ◌∷◌, refl, codes, drop, decimal}
use Rattle.clr_model.specs.Instructions.{set_slot}
use Rattle.clr_model.specs.LineGrammar.{local_word}
use Rattle.clr_script.proofs.FrontLines.{front_made, local_unfed, number_unfed, text_unfed}
use Rattle.clr_script.proofs.quick.lines.set_at.Goals as goal

pub returns-clause-line : goal.returns-clause-line
returns-clause-line c =
    let into = c.in_ok-into in
    let index = c.in_ok-index in
    let stored = c.in_ok-stored in
    front_made (codes "set") (local_word into.into ∷ decimal index.index ∷ local_word stored.stored ∷ [])
    (λ t. set_slot t into.into index.index stored.stored) (32 ∷ drop c.args.at c.args.text.now) _ (λ t. refl)
    (λ t fits. (fits, into.ensures.read.1, index.ensures.read.1, stored.ensures.read.1)) (
      text_unfed (codes "set") refl,
      (
        local_unfed into.into into.ensures.read.1,
        (
          number_unfed index.index index.ensures.read.1,
          (local_unfed stored.stored stored.ensures.read.1, tt),
        ),
      ),
    )
    (_, into.ensures.read.0, (_, index.ensures.read.0, (_, stored.ensures.read.0, c.in_ok-end.ensures.read)))
