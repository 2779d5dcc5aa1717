-- The words that were read are those of the line.
use Rattle.std.proofs.Common.{◌∷◌}
use Rattle.clr_model.specs.LineGrammar.{local_word, number_words}
use Rattle.clr_script.proofs.FrontLines.{behind_goes_on, ends_with, new_made}
use Rattle.clr_script.proofs.quick.births.read_new.Goals as goal

pub returns-clause-line : goal.returns-clause-line
returns-clause-line c =
    let local = c.in_ok-local in
    let name = c.in_ok-name in
    let len = c.in_ok-len in
    new_made local.local name.name.now len.len c.args.text.now _ _ _ local.ensures.0 name.ensures.0 len.ensures.0
    local.ensures.1 name.ensures.1 len.ensures.1

pub returns-clause-ends : goal.returns-clause-ends
returns-clause-ends c =
    let local = c.in_ok-local in
    let name = c.in_ok-name in
    let len = c.in_ok-len in
    ends_with (local_word local.local ∷ name.name.now ∷ number_words len.len) _ c.args.text.now
    (_, local.ensures.0, (_, name.ensures.0, behind_goes_on (number_words len.len) _ _ len.ensures.0))
