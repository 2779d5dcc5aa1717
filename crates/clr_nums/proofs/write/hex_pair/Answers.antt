use Rattle.std.proofs.Common.{arith}
use Rattle.clr_nums.proofs.PairTables.{hex_pair-at}
use Rattle.clr_nums.proofs.write.hex_pair.Goals as goal

pub returns : goal.returns
returns c = rw c.from-from.ensures (hex_pair-at c.args.byte (omega arith))
