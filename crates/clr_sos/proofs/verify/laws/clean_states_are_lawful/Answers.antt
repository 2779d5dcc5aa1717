use Rattle.clr_sos.proofs.LawfulTables.{lawful_state}
use Rattle.clr_sos.proofs.verify.laws.clean_states_are_lawful.Goals as goal

pub returns : goal.returns
returns c s m heap clean begun = lawful_state s m heap clean begun
