-- The table tells it.
use Rattle.std.proofs.Common.{arith}
use Rattle.clr_script.proofs.NameBytes.{name_start-at}
use Rattle.clr_script.proofs.fields.starts_name.Goals as goal

pub returns : goal.returns
returns c = rw c.from.ensures (name_start-at c.args.b (omega arith))
