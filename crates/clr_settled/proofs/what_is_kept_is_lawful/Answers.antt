use Rattle.clr_settled.proofs.SettledLawful.{born, placed}
use Rattle.clr_settled.proofs.what_is_kept_is_lawful.Goals as goal

pub returns-clause-born : goal.returns-clause-born
returns-clause-born c = born

pub returns-clause-placed : goal.returns-clause-placed
returns-clause-placed c = placed
