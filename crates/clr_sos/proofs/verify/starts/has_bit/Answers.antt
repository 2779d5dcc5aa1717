use Rattle.clr_sos.proofs.StartBits.{bit_read}
use Rattle.clr_sos.proofs.verify.starts.has_bit.Goals as goal

pub returns : goal.returns
returns c = bit_read c.args.bits.now c.args.i
