use Rattle.clr_shown.proofs.NoContexts.{nothing-given}
use Rattle.clr_shown.proofs.ShownStates.{shown-same}
use Rattle.clr_shown.proofs.what_inspect_shows_is_what_the_lines_show.Goals as goal

pub returns-clause-shown : goal.returns-clause-shown
returns-clause-shown c = shown-same

pub returns-clause-unchanged : goal.returns-clause-unchanged
returns-clause-unchanged c = nothing-given
