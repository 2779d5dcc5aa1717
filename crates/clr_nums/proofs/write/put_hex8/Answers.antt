-- Each turn writes one pair more.
use Rattle.std.proofs.Common.{◌-◌, arith}
use Rattle.clr_nums.proofs.HexText.{hex_onto-pair}
use Rattle.clr_nums.proofs.write.put_hex8.Goals as goal

pub loop-pair-preserved : goal.loop-pair-preserved
loop-pair-preserved c =
    let written = rw c.hex_pair.ensures at c.put_pair.ensures in
    hex_onto-pair c.loop-pair.into _ (c.loop-pair.pair - 1) c.loop-pair.pair c.loop-pair.rest _
    (omega arith) (omega arith) written c.loop-pair.invariant
