-- The first word ends at the first space.
use Rattle.std.proofs.Common.{sym, ◌∙◌}
use Rattle.clr_script.proofs.WordCuts.{words_none, words_some}
use Rattle.clr_script.proofs.cut.next_word.Goals as goal

pub returns-in-None : goal.returns-in-None
returns-in-None c = words_none _ (sym c.first_space.ensures ∙ c.in-None.is)

pub returns-in-Some : goal.returns-in-Some
returns-in-Some c = words_some _ _ (sym c.first_space.ensures ∙ c.in-Some.is)
