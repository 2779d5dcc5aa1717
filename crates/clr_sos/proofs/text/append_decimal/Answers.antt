-- The digits stand behind what was there.
use Rattle.std.proofs.Common.{arith}
use Rattle.clr_sos.proofs.WrittenFronts.{front_written}
use Rattle.clr_sos.proofs.text.append_decimal.Goals as goal

pub returns-clause-text : goal.returns-clause-text
returns-clause-text c = front_written c.args.into.now c.put_digits-count.new.into _ c.args.at _
    c.put_digits-count.result (omega arith) c.put_digits-count.ensures.within c.put_digits-count.ensures.text
