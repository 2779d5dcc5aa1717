-- Two pairs behind the first digits.
use Rattle.std.proofs.Common.{◌/◌, ◌%◌, arith}
use Rattle.clr_nums.proofs.DecimalText.{decimal-two_pairs, length-decimal-two_pairs, length-decimal-most, pairs_put}
use Rattle.clr_nums.proofs.write.+put_long.Goals as goal

pub put_pair-requires : goal.put_pair-requires
put_pair-requires t c =
    let counted = length-decimal-two_pairs c.args.v c.if-v-lt10000.false (omega arith) in
    omega (arith, c.put_long-count.ensures.count, length-decimal-most c.args.v (omega arith))

pub put_pair-requires-2 : goal.put_pair-requires-2
put_pair-requires-2 t c =
    let counted = length-decimal-two_pairs c.args.v c.if-v-lt10000.false (omega arith) in
    omega (arith, c.put_long-count.ensures.count, length-decimal-most c.args.v (omega arith))

pub returns-clause-count : goal.returns-clause-count
returns-clause-count t c =
    omega (arith, c.put_long-count.ensures.count, length-decimal-two_pairs c.args.v c.if-v-lt10000.false (omega arith))

pub returns-clause-text : goal.returns-clause-text
returns-clause-text t c = rw (decimal-two_pairs c.args.v c.if-v-lt10000.false (omega arith))
    (pairs_put _ c.args.into.now c.put_long-count.new.into c.put_pair.new.into c.put_pair-2.new.into
    c.decimal_pair.result c.decimal_pair-2.result c.put_long-count.result (c.args.v % 10000 / 100) (c.args.v % 100)
    c.put_long-count.ensures.count c.put_long-count.ensures.text
    c.decimal_pair.ensures c.put_pair.ensures c.decimal_pair-2.ensures c.put_pair-2.ensures)
