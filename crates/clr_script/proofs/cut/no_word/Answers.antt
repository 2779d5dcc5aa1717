-- A word is left behind each space.
use Rattle.std.proofs.Common.{sym}
use Rattle.clr_script.proofs.WordCuts.{none_in_words}
use Rattle.clr_script.proofs.cut.no_word.Goals as goal

pub returns-in-Some : goal.returns-in-Some
returns-in-Some c = rw c.in-Some.is (sym (none_in_words c.in-Some.field-0.now))
