-- The first digit stands alone, or before others.
use Rattle.std.proofs.Common.{◌++◌, ◌∙◌, arith, ap, decimal, sym}
use Rattle.clr_script.proofs.FrontDigits.{first_digit}
use Rattle.clr_script.proofs.quick.digits.number_from.Goals as goal

pub returns-in-48-to-57 : goal.returns-in-48-to-57
returns-in-48-to-57 c = (
  first_digit c.args.first c.args.text.now c.if-not-is_ascii_digit.ensures.cases
      ∙ (ap (λ n. decimal n ++ c.args.text.now) (sym c.from-front.ensures) ∙ c.long_number.ensures.read),
  c.long_number.ensures.fits,
)

pub returns-in_default : goal.returns-in_default
returns-in_default c =
    let range = c.if-not-is_ascii_digit.ensures.cases in
    let front = c.from-front.ensures in (
      first_digit c.args.first c.args.text.now range ∙ ap (λ n. decimal n ++ c.args.text.now) (sym front),
      omega (arith, range.1, front),
    )
