use Rattle.clr_laws.proofs.OneStep.{one_step}
use Rattle.clr_laws.proofs.a_step_has_one_reply.Goals as goal

pub returns : goal.returns
returns c = one_step
