-- A digit 0 alone, or a number that another digit begins.
use Rattle.std.proofs.Common.{◌<◌, ◌∙◌, ◌+◌, ◌++◌, ℕ, ap, arith, decimal, drop}
use Rattle.clr_script.proofs.Places.{digit_alone}
use Rattle.clr_script.proofs.quick.places.long_number.Goals as goal

pub returns-then-front-eq0-clause-read : goal.returns-then-front-eq0-clause-read
returns-then-front-eq0-clause-read c =
    let high = c.if-front-gt9.false in
    let low : c.digit_at-front.result < 10 = omega (arith, high) in (
      c.digit_at-front.ensures low ∙ (digit_alone c.digit_at-front.result _ low
          ∙ ap (λ (n : ℕ). decimal n ++ drop (c.args.at + 1) c.args.text.now) c.if-front-eq0.true),
      omega arith,
    )

pub returns-clause-read : goal.returns-clause-read
returns-clause-read c =
    let high = c.if-front-gt9.false in
    let low : c.digit_at-front.result < 10 = omega (arith, high) in (
      c.digit_at-front.ensures low ∙ (digit_alone c.digit_at-front.result _ low ∙ c.more_digits.ensures.read),
      c.more_digits.ensures.fits,
    )
