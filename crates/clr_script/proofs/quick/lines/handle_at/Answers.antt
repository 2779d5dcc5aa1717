-- The words that were read are those of the line.
use Rattle.std.proofs.Common.{◌∷◌, refl, codes, drop}
use Rattle.clr_model.specs.Instructions.{create_handle}
use Rattle.clr_model.specs.LineGrammar.{local_word, local_words}
use Rattle.clr_model.specs.ReplyText.{kind_word}
use Rattle.clr_script.proofs.FrontLines.{behind_goes_on, front_made, kind_unfed, letters_told, local_unfed}
use Rattle.clr_script.proofs.FrontLines.{second_unfed, text_unfed}
use Rattle.clr_script.proofs.quick.lines.handle_at.Goals as goal

pub returns-clause-line : goal.returns-clause-line
returns-clause-line c =
    let kind = c.in_ok-kind in
    let local = c.in_ok-local in
    let second = c.in_ok-second in
    letters_told (codes "hand") (codes "le") (λ t. create_handle t kind.kind local.local second.second)
    (drop c.args.at c.args.text.now) _ _ c.in_ok-next.ensures.read
    (front_made (codes "handle") (kind_word kind.kind ∷ local_word local.local ∷ local_words second.second)
    (λ t. create_handle t kind.kind local.local second.second) _ _ (λ t. refl)
    (λ t fits. (fits, local.ensures.read.1, second.ensures.form)) (
      text_unfed (codes "handle") refl,
      (
        kind_unfed kind.kind,
        (local_unfed local.local local.ensures.read.1, second_unfed second.second second.ensures.fits),
      ),
    ) (
      _,
      kind.ensures.read,
      (
        _,
        local.ensures.read.0,
        behind_goes_on (local_words second.second) _ _ second.ensures.read,
      ),
    ))
