use Rattle.clr_sos.proofs.StartBits.{bit_set}
use Rattle.clr_sos.proofs.verify.starts.set_bit.Goals as goal

pub returns : goal.returns
returns c j = bit_set c.args.bits.now c.args.i j c.requires
