-- A digit and a space, or more digits before it.
use Rattle.std.proofs.Common.{◌++◌, ◌∷◌, ◌∙◌, arith, ap, decimal, sym}
use Rattle.clr_script.proofs.FrontDigits.{first_digit}
use Rattle.clr_script.proofs.quick.digits.spaced_number.Goals as goal

pub returns-in-Some : goal.returns-in-Some
returns-in-Some c =
    let range = c.if-not-is_ascii_digit.ensures.cases in
    let front = c.from-front.ensures in (
      first_digit c.args.first c.args.text.now range
          ∙ (ap (λ n. decimal n ++ c.args.text.now) (sym front)
          ∙ ap (λ text. decimal c.from-front.result ++ text) c.in-Some.ensures),
      omega (arith, range.1, front),
    )

pub returns : goal.returns
returns c = (
  first_digit c.args.first c.args.text.now c.if-not-is_ascii_digit.ensures.cases
      ∙ (ap (λ n. decimal n ++ c.args.text.now) (sym c.from-front.ensures) ∙ (c.long_number-number.ensures.read
      ∙ ap (λ text. decimal c.long_number-number.result.0 ++ text) c.in_ok-rest.ensures)),
  c.long_number-number.ensures.fits,
)
