use Rattle.clr_types.proofs.CursorSteps.{none_left}
use Rattle.clr_types.proofs.slots.at_next_element.Goals as goal

pub returns-clause-empty : goal.returns-clause-empty
returns-clause-empty c = λ none. none_left _ _ _ _ _ _ _ _ c.requires.closed none
