-- The word stands there.
use Rattle.std.proofs.Common.{◌∙◌, arith, sym}
use Rattle.std.proofs.lemmas.Slice.Eq.{bytes_eq-Decides}
use Rattle.clr_script.proofs.Places.{word_here}
use Rattle.clr_script.proofs.quick.places.text_at.Goals as goal

pub returns-then-is_word-clause-read : goal.returns-then-is_word-clause-read
returns-then-is_word-clause-read c =
    word_here c.args.text.now c.args.word.now c.args.at _ (omega arith)
    ((bytes_eq-Decides _ _).0 (sym c.is_word.ensures ∙ c.if-is_word.true))
