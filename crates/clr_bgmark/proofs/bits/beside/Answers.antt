use Rattle.std.proofs.Common.{◌^◌, ◌<◌, arith}
use Rattle.clr_bgmark.proofs.WordSearch.{beside_one, beside_zero}
use Rattle.clr_bgmark.proofs.bits.beside.Goals as goal

pub returns-clause-has : goal.returns-clause-has
returns-clause-has c = λ i within e.
    let fits : c.args.other < 2 ^ 64 = omega (arith, c.ranges.other) in
    beside_one c.args.one c.args.other i fits within e

pub returns-clause-lacks : goal.returns-clause-lacks
returns-clause-lacks c = λ i within e.
    let fits : c.args.other < 2 ^ 64 = omega (arith, c.ranges.other) in
    beside_zero c.args.one c.args.other i fits within e
