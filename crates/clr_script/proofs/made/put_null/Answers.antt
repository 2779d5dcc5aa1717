-- Three words, one behind the other.
use Rattle.std.proofs.Common.{[], ◌∷◌, codes}
use Rattle.clr_model.specs.LineGrammar.{thread_word, local_word}
use Rattle.clr_script.proofs.MadeLines.{word_behind}
use Rattle.clr_script.proofs.made.put_null.Goals as goal

pub returns-clause-line : goal.returns-clause-line
returns-clause-line c =
    let thread = thread_word c.args.thread in
    let local = local_word c.args.local in
    let two = word_behind thread [] (codes "null") c.put_thread-end.ensures.word c.put_word-end.ensures.word in
    word_behind thread (codes "null" ∷ []) local two c.put_local.ensures.word
