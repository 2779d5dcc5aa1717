-- A line that is not too long says what is read of its words.
use Rattle.std.proofs.Common.{sym, ◌∙◌}
use Rattle.clr_script.proofs.WholeLines.{line_is_read, line_is_none}
use Rattle.clr_script.proofs.reader.read_line.Goals as goal

pub returns-clause-read : goal.returns-clause-read
returns-clause-read c = rw c.ok_or.ensures.value
    (line_is_read c.args.line.now _ _ c.read_words.result _ c.next_word.ensures c.read_words.ensures)

pub returns-clause-syntax : goal.returns-clause-syntax
returns-clause-syntax c = λ e. (
  c.if-line-gt-LONGEST.false,
  line_is_none c.args.line.now _ _ c.read_words.result _ c.next_word.ensures c.read_words.ensures
      (sym c.ok_or.ensures.value ∙ e),
)
