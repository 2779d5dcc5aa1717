use Rattle.clr_settled.proofs.Asked.{asked}
use Rattle.clr_settled.proofs.Dumped.{dumped}
use Rattle.clr_settled.proofs.asking_is_alike.Goals as goal

pub returns-clause-asked : goal.returns-clause-asked
returns-clause-asked c = asked

pub returns-clause-dumped : goal.returns-clause-dumped
returns-clause-dumped c = dumped
