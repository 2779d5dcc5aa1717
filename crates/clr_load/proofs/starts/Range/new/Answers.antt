use Rattle.clr_load.proofs.StartBits.{no_bits}
use Rattle.clr_load.proofs.starts.Range.new.Goals as goal

pub returns-clause-none : goal.returns-clause-none
returns-clause-none c x = no_bits _ _ x c.in_ok-bits.ensures
