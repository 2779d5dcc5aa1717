use Rattle.clr_settled.proofs.SettledLawful.{free-kept, front-kept}
use Rattle.clr_settled.proofs.free_items_and_fronts_are_kept.Goals as goal

pub returns-clause-free : goal.returns-clause-free
returns-clause-free c = free-kept

pub returns-clause-front : goal.returns-clause-front
returns-clause-front c = front-kept
