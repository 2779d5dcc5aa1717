-- One digit, or a pair of them.
use Rattle.std.proofs.Common.{◌+◌, length, ap, sym, arith}
use Rattle.std.proofs.lemmas.Fmt.{decimal_digit}
use Rattle.clr_nums.proofs.DecimalText.{decimal-two, first_set}
use Rattle.clr_nums.proofs.write.put_first.Goals as goal

pub returns-then-v-lt10-clause-count : goal.returns-then-v-lt10-clause-count
returns-then-v-lt10-clause-count c = ap length (sym (decimal_digit c.args.v c.if-v-lt10.true))

pub returns-then-v-lt10-clause-text : goal.returns-then-v-lt10-clause-text
returns-then-v-lt10-clause-text c = rw (decimal_digit c.args.v c.if-v-lt10.true)
    (first_set c.args.into.now (48 + c.args.v) (omega arith))

pub returns-clause-count : goal.returns-clause-count
returns-clause-count c = ap length (sym (decimal-two c.args.v c.if-v-lt10.false c.requires))

pub returns-clause-text : goal.returns-clause-text
returns-clause-text c = rw (decimal-two c.args.v c.if-v-lt10.false c.requires)
    (rw c.decimal_pair.ensures at c.put_pair.ensures)
