-- A pair behind the first digits.
use Rattle.std.proofs.Common.{◌%◌, arith}
use Rattle.clr_nums.proofs.DecimalText.{decimal-pair, length-decimal-pair, length-decimal-most, pair_put}
use Rattle.clr_nums.proofs.write.put_short.Goals as goal

pub put_pair-requires : goal.put_pair-requires
put_pair-requires c =
    let counted = length-decimal-pair c.args.v c.if-v-lt100.false (omega arith) in
    omega (arith, c.put_first-count.ensures.count, length-decimal-most c.args.v (omega arith))

pub returns-clause-count : goal.returns-clause-count
returns-clause-count c =
    omega (arith, c.put_first-count.ensures.count, length-decimal-pair c.args.v c.if-v-lt100.false (omega arith))

pub returns-clause-text : goal.returns-clause-text
returns-clause-text c = rw (decimal-pair c.args.v c.if-v-lt100.false (omega arith))
    (pair_put _ c.args.into.now c.put_first-count.new.into c.put_pair.new.into c.decimal_pair.result
    c.put_first-count.result (c.args.v % 100) c.put_first-count.ensures.count c.put_first-count.ensures.text
    c.decimal_pair.ensures c.put_pair.ensures)
