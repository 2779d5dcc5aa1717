-- Some digits are written.
use Rattle.std.proofs.Common.{arith}
use Rattle.std.proofs.lemmas.Fmt.{decimal_nonempty}
use Rattle.clr_nums.proofs.write.put_dec.Goals as goal

pub returns-then-v-lt10000-clause-some : goal.returns-then-v-lt10000-clause-some
returns-then-v-lt10000-clause-some c = omega (arith, decimal_nonempty c.args.v (omega arith))

pub returns-else-v-lt10000-clause-some : goal.returns-else-v-lt10000-clause-some
returns-else-v-lt10000-clause-some c = omega (arith, decimal_nonempty c.args.v (omega arith))
