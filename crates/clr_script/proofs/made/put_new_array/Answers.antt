-- One word more than without a length.
use Rattle.std.proofs.Common.{[], ◌∷◌, codes, decimal}
use Rattle.clr_model.specs.LineGrammar.{thread_word, local_word}
use Rattle.clr_script.proofs.MadeLines.{word_behind}
use Rattle.clr_script.proofs.made.put_new_array.Goals as goal

pub returns-clause-line : goal.returns-clause-line
returns-clause-line c =
    word_behind (thread_word c.args.thread) (codes "new" ∷ local_word c.args.local ∷ c.args.name.now ∷ [])
    (decimal c.args.len) c.put_new-end.ensures.line c.put_number.ensures.word
