-- Each turn reads one digit more.
use Rattle.std.proofs.Common.{arith}
use Rattle.std.proofs.lemmas.List.{take_all}
use Rattle.clr_nums.proofs.DecimalText.{digits_value-take_more, too_large}
use Rattle.clr_nums.proofs.read.number_of.Goals as goal

pub returns-in_err-number : goal.returns-in_err-number
returns-in_err-number c = rw c.from_residual.ensures
    (too_large c.args.text.now c.loop-digit.digit-index c.loop-digit.number c.requires c.loop-digit-test.true
    c.loop-digit.invariant.value c.in_err-number.ensures)

pub loop-digit-preserved : goal.loop-digit-preserved
loop-digit-preserved c =
    let read = c.in_ok-number.ensures in
    record {
      bound = omega (arith, read.0, read.1);
      value = omega (
        arith,
        read.1,
        c.loop-digit.invariant.value,
        digits_value-take_more c.args.text.now
            c.loop-digit.digit-index c.requires c.loop-digit-test.true,
      );
    }

pub returns : goal.returns
returns c =
    let through = take_all c.loop-digit.digit-index c.args.text.now c.loop-digit-test.false in
    let value = rw through at c.loop-digit.invariant.value in
    (omega (arith, value, c.loop-digit.invariant.bound), value)
