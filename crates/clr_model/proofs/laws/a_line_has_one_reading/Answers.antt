-- Both are what is read from the words of the line.
use Rattle.clr_model.proofs.UnspacedWords.{one_reading}
use Rattle.clr_model.proofs.laws.a_line_has_one_reading.Goals as goal

pub returns : goal.returns
returns c = one_reading
