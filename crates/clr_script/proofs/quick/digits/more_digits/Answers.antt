-- Each turn takes one digit more.
use Rattle.std.proofs.Common.{arith, ◌∙◌, ap, ◌++◌, decimal}
use Rattle.clr_script.proofs.FrontDigits.{further_digit}
use Rattle.clr_script.proofs.quick.digits.more_digits.Goals as goal

pub loop-number-preserved : goal.loop-number-preserved
loop-number-preserved c =
    let range = c.if-not-is_ascii_digit.ensures.cases in
    let small = c.loop-number-test.true in
    let some = c.loop-number.invariant.some in
    rw c.from.ensures record {
      some = omega arith;
      bound = omega (arith, range.1, small);
      read = c.loop-number.invariant.read ∙ (ap (λ rest. decimal c.loop-number.number ++ rest) c.in-Some.ensures.cases.0
          ∙ further_digit c.loop-number.number c.in-Some.next.now c.in-Some.more.now range (λ e. omega (arith, e, some))
          small);
    }
