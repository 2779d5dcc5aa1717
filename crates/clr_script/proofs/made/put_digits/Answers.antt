-- Below ten there is one digit.
use Rattle.std.proofs.Common.{arith, ap, length}
use Rattle.clr_nums.proofs.DecimalText.{length-decimal-digit}
use Rattle.clr_script.proofs.made.put_digits.Goals as goal

pub returns-clause-digit : goal.returns-clause-digit
returns-clause-digit c low =
    omega (arith, length-decimal-digit c.args.number low, ap length c.put_dec-count.ensures.text)
