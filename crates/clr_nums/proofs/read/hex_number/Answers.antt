-- Each turn reads one digit more.
use Rattle.std.proofs.Common.{arith}
use Rattle.clr_nums.proofs.HexText.{hex_bound, hex_fits, take_more-hex_onto, hex16-read}
use Rattle.clr_nums.proofs.read.hex_number.Goals as goal

pub overflow_mul-number : goal.overflow_mul-number
overflow_mul-number c = omega (
  arith,
  hex_fits c.loop-letter.letter-index c.loop-letter.number 0 (omega arith)
      (omega arith) c.loop-letter.invariant.bound,
)

pub overflow_add-number : goal.overflow_add-number
overflow_add-number c =
    let digit = c.in_ok-hex_value.ensures in
    omega (
      arith,
      c.from.ensures,
      hex_fits c.loop-letter.letter-index c.loop-letter.number c.in_ok-hex_value.field-0
          (omega arith) digit.0 c.loop-letter.invariant.bound,
    )

pub loop-letter-preserved : goal.loop-letter-preserved
loop-letter-preserved c =
    let digit = c.in_ok-hex_value.ensures in
    rw c.from.ensures record {
      bound = hex_bound c.loop-letter.letter-index c.loop-letter.number c.in_ok-hex_value.field-0 digit.0
          c.loop-letter.invariant.bound;
      digits = take_more-hex_onto c.args.text.now c.loop-letter.letter-index c.loop-letter.number
          c.in_ok-hex_value.field-0 c.loop-letter-test.true digit.0 digit.1 c.loop-letter.invariant.digits;
    }

pub returns : goal.returns
returns c = hex16-read c.args.text.now c.loop-letter.letter-index c.loop-letter.number c.requires
    (omega arith) c.loop-letter.invariant.bound c.loop-letter.invariant.digits
