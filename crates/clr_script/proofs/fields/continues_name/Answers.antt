-- The table tells it.
use Rattle.std.proofs.Common.{arith}
use Rattle.clr_script.proofs.NameBytes.{name_byte-at}
use Rattle.clr_script.proofs.fields.continues_name.Goals as goal

pub returns : goal.returns
returns c = rw c.from.ensures (name_byte-at c.args.b (omega arith))
