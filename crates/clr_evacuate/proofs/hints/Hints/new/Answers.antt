use Rattle.clr_evacuate.proofs.HintFacts.{hints-begin}
use Rattle.clr_evacuate.proofs.hints.Hints.new.Goals as goal

pub returns : goal.returns
returns c = λ rows h. hints-begin rows h 129
